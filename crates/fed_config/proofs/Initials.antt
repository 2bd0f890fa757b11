-- Before a federate enters, its file lets it publish and send alone.
use Rattle.std.proofs.Common.{◌≡◌, ℕ, ◌+◌, refl, subst, List, [], ◌∷◌, Option, Some, None, Result, Ok, Err, decimal, codes}
use Rattle.std.specs.Prelude.{unwrap_or, ok_or}
use Rattle.serde_json.specs.Data.{Data, Items, no_items, item}
use Rattle.serde_json.specs.Find.{as_array}
use Rattle.hel_values.specs.declared.Value.{Value}
use Rattle.fed_script.specs.Script.{IsInitial}
use Rattle.fed_script.specs.declared.action.Action.{Action}
use Rattle.fed_script.specs.declared.action.Action.TheVariants as actions
use Rattle.json_reading.specs.Keys.{Member, member_at}
use Rattle.json_reading.specs.Reading.{Read, ◌>>=◌, here, under, at_optional, optional_at, at_needed, each_from, list_of}
use Rattle.json_reading.specs.declared.refusal.ConfigCause.{ConfigCause}
use Rattle.json_reading.specs.declared.refusal.ConfigCause.TheVariants.{NotAList, UnknownWord}
use Rattle.fed_config.specs.Scripts.{Known, head_of, publishing_of, sending_of, not_allowed, initial_by, initial_of}
use Rattle.fed_config.specs.declared.verbs.Verb.{Verb}
use Rattle.fed_config.specs.declared.verbs.Verb.TheVariants.{Publish, PublishSum, Send, Echo, Request, Advance, Iterate, Finish, Fail, Repeat}

-- an action that may stand before others
abbrev Leads : Action → Type 0
Leads a = (more : List Action) → IsInitial more → IsInitial (a ∷ more)

never : (members : List Member) (a : Action) → not_allowed members ≡ Ok a → ⊥
never members a e = go (member_at (codes "do") members) e
  where
    go : (m : Option Member) → at_needed (codes "do") (λ value. here (Err UnknownWord)) m ≡ Ok a → ⊥
    go None e = cc
    go (Some m) e = cc

publishes : (r : Read (ℕ × Value)) (a : Action) → (r >>= λ p. Ok (actions.Publish p.0 p.1)) ≡ Ok a → Leads a
publishes (Ok p) a e = let same : actions.Publish p.0 p.1 ≡ a = cc in subst Leads same (λ more h. h)
publishes (Err refusal) a e = cc

sends : (r : Read (ℕ × List ℕ × List ℕ)) (a : Action) → (r >>= λ s. Ok (actions.Send s.0 s.1 s.2)) ≡ Ok a → Leads a
sends (Ok s) a e = let same : actions.Send s.0 s.1 s.2 ≡ a = cc in subst Leads same (λ more h. h)
sends (Err refusal) a e = cc

by_verb : (known : Known) (members : List Member) (verb : Verb) (a : Action) → initial_by known members verb ≡ Ok a → Leads a
by_verb known members Publish a e = publishes (publishing_of known members) a e
by_verb known members PublishSum a e = absurd (never members a e)
by_verb known members Send a e = sends (sending_of known members) a e
by_verb known members Echo a e = absurd (never members a e)
by_verb known members Request a e = absurd (never members a e)
by_verb known members Advance a e = absurd (never members a e)
by_verb known members Iterate a e = absurd (never members a e)
by_verb known members Finish a e = absurd (never members a e)
by_verb known members Fail a e = absurd (never members a e)
by_verb known members Repeat a e = absurd (never members a e)

leads : (known : Known) (d : Data) (a : Action) → initial_of known d ≡ Ok a → Leads a
unfolding initial_of
leads known d a e = go (head_of d) e
  where
    go : (r : Read (List Member × Verb)) → (r >>= λ h. initial_by known h.0 h.1) ≡ Ok a → Leads a
    go (Ok h) e = by_verb known h.0 h.1 a e
    go (Err refusal) e = cc

from_place : (known : Known) (i : ℕ) (ds : Items) (xs : List Action) → each_from (initial_of known) i ds ≡ Ok xs → IsInitial xs
unfolding each_from
from_place known i no_items xs e = let same : [] ≡ xs = cc in subst IsInitial same tt
from_place known i (item d ds) xs e = go (initial_of known d) (each_from (initial_of known) (i + 1) ds) refl (from_place known (i + 1) ds) e
  where
    go : (r : Read Action) (q : Read (List Action)) → initial_of known d ≡ r → ((more : List Action) → q ≡ Ok more → IsInitial more)
        → (under (decimal i) r >>= λ x. q >>= λ more. Ok (x ∷ more)) ≡ Ok xs → IsInitial xs
    go (Err refusal) q is later e = cc
    go (Ok a) (Err refusal) is later e = cc
    go (Ok a) (Ok more) is later e =
        let same : a ∷ more ≡ xs = cc in subst IsInitial same (leads known d a is more (later more refl))

in_list : (known : Known) (d : Data) (xs : List Action) → list_of (initial_of known) d ≡ Ok xs → IsInitial xs
in_list known d xs e = go (ok_or (as_array d) NotAList) e
  where
    go : (r : Result Items ConfigCause) → (here r >>= λ items. each_from (initial_of known) 0 items) ≡ Ok xs → IsInitial xs
    go (Ok items) e = from_place known 0 items xs e
    go (Err cause) e = cc

-- what stands at the key of initial actions keeps to that
pub initial_within : (known : Known) (members : List Member) (found : Option (List Action))
    → optional_at (codes "initial") (list_of (initial_of known)) members ≡ Ok found → IsInitial (unwrap_or found [])
initial_within known members found e = go (member_at (codes "initial") members) e
  where
    read : (m : Member) (r : Read (List Action)) → list_of (initial_of known) m.1 ≡ r → (under m.0 r >>= λ x. Ok (Some x)) ≡ Ok found
        → IsInitial (unwrap_or found [])
    read m (Ok xs) is e = let same : Some xs ≡ found = cc in subst (λ (o : Option (List Action)). IsInitial (unwrap_or o [])) same (in_list known m.1 xs is)
    read m (Err refusal) is e = cc

    go : (m : Option Member) → at_optional (list_of (initial_of known)) m ≡ Ok found → IsInitial (unwrap_or found [])
    go None e = let same : None ≡ found = cc in subst (λ (o : Option (List Action)). IsInitial (unwrap_or o [])) same tt
    go (Some m) e = read m (list_of (initial_of known) m.1) refl e
