-- After any calls an input holds the last value applied and its mark.
use Rattle.std.proofs.Common.{◌≡◌, ◌≢◌, ◌⊎◌, inl, inr, Bool, true, false, refl, ◌∙◌, ap, List, [], ◌∷◌, ◌++◌}
use Rattle.std.specs.Prelude.{Option, Some, None}
use Rattle.std.proofs.lemmas.Bool.{false≢true}
use Rattle.hel_lists.specs.Members.{Each}
use Rattle.hel_values.specs.declared.Value.{Value}
use Rattle.value_updates.specs.Input.{Input, Call, applies, starts_grant, opening, after, run}
use Rattle.value_updates.specs.Laws.{applied, IsLast, IsAppliedSince, InputLaws}

-- where the input held v before, it holds the last of v and the values applied
held : (v : Value) (updated : Bool) (calls : List Call) → IsLast (v ∷ applied calls) (run (record { value = Some v; updated = updated }) calls).value
held v updated [] = ([], refl)
held v updated (applies w ∷ calls) = longer (applied calls) (run (record { value = Some w; updated = true }) calls).value (held w true calls)
  where
    longer : (values : List Value) (last : Option Value) → IsLast (w ∷ values) last → IsLast (v ∷ w ∷ values) last
    longer values None none = cc
    longer values (Some u) found = (v ∷ found.0, ap (λ (l : List Value). v ∷ l) found.1)
held v updated (starts_grant ∷ calls) = held v false calls

-- where the input held none, it holds the last of the values applied, if there are any
last_applied : (updated : Bool) (calls : List Call) → IsLast (applied calls) (run (record { value = None; updated = updated }) calls).value
last_applied updated [] = refl
last_applied updated (applies v ∷ calls) = held v true calls
last_applied updated (starts_grant ∷ calls) = last_applied false calls

-- a mark was set before and no grant began, or a value was applied since
marked : (s : Input) (calls : List Call) → (run s calls).updated ≡ true → ((s.updated ≡ true) × Each (λ call. call ≢ starts_grant) calls) ⊎ IsAppliedSince calls
marked s [] holds = inl (holds, (λ call none. absurd none))
marked s (applies v ∷ calls) holds = elim (marked (after s (applies v)) calls holds) [
  | inl before ↦ inr ([], v, calls, refl, before.1)
  | inr since ↦ inr (applies v ∷ since.0, since.1, since.2, ap (λ (l : List Call). applies v ∷ l) since.3, since.4)
]
marked s (starts_grant ∷ calls) holds = elim (marked (after s starts_grant) calls holds) [
  | inl before ↦ absurd (false≢true before.0)
  | inr since ↦ inr (starts_grant ∷ since.0, since.1, since.2, ap (λ (l : List Call). starts_grant ∷ l) since.3, since.4)
]

-- a mark stays while no grant begins
stays_marked : (s : Input) (calls : List Call) → s.updated ≡ true → Each (λ call. call ≢ starts_grant) calls → (run s calls).updated ≡ true
stays_marked s [] holds each = holds
stays_marked s (applies v ∷ calls) holds each = stays_marked (after s (applies v)) calls refl (λ call among. each call (inr among))
stays_marked s (starts_grant ∷ calls) holds each = absurd (each starts_grant (inl refl) refl)

-- a value that was applied with no grant behind it marks
marks : (s : Input) (front : List Call) (v : Value) (back : List Call) → Each (λ call. call ≢ starts_grant) back → (run s (front ++ applies v ∷ back)).updated ≡ true
marks s [] v back each = stays_marked (after s (applies v)) back refl each
marks s (call ∷ front) v back each = marks (after s call) front v back each

-- the laws of inputs
pub input_laws : InputLaws
input_laws = record {
  value = last_applied false;
  mark = λ calls. (
    (λ holds. elim (marked opening calls holds) [ inl before ↦ absurd (false≢true before.0) | inr since ↦ since ]),
    (λ since. ap (λ (l : List Call). (run opening l).updated) since.3 ∙ marks opening since.0 since.1 since.2 since.4),
  );
}
