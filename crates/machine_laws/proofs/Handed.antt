-- The items to a federate, and which of them a cut hands over.
use Rattle.std.proofs.Common.{◌≡◌, ◌≢◌, ℕ, ◌<◌, ◌≤◌, true, false, arith, refl, sym, ◌∙◌, ap, subst, List}
use Rattle.std.specs.Prelude.{nat_le, map, not}
use Rattle.std.specs.List.{filter}
use Rattle.std.proofs.lemmas.Bool.{eqb-true, eq-eqb, ne_eqb, false≢true}
use Rattle.std.proofs.lemmas.Bool.Decides.{nat_tests}
use Rattle.helics_time.specs.Stamp.{At, IsStamp, IsDue, at_most, rank}
use Rattle.helics_time.proofs.Ranks.{most_of}
use Rattle.hel_lists.specs.Members.{IsIn, Each}
use Rattle.hel_lists.proofs.Members.{in_map, map_in, in_filter, filter_in, filter_within}
use Rattle.due_queue.specs.Item.{Parcel, is_to}
use Rattle.time_state.specs.Fed.{IsEvent}
use Rattle.machine_laws.specs.Machine.{dues_to, is_handed, is_left}

-- a due to f is that of an item to f
pub in_dues : (items : List Parcel) (f : ℕ) (d : At) → IsIn d (dues_to items f) → (i : Parcel) × IsIn i items × (i.target ≡ f) × (d ≡ i.due)
in_dues items f d among =
    let m = in_map (λ (i : Parcel). i.due) (filter (is_to f) items) d among in
    let k = in_filter (is_to f) items m.0 m.1 in
    (m.0, k.0, eqb-true m.0.target f k.1, m.2)

-- and the due of an item is one to its target
pub dues_in : (items : List Parcel) (i : Parcel) → IsIn i items → IsIn i.due (dues_to items i.target)
dues_in items i among = map_in (λ (j : Parcel). j.due) (filter (is_to i.target) items) i (filter_in (is_to i.target) items i among (eq-eqb i.target i.target refl))

-- where each item of one list is in another, so is each due
pub dues_within : (xs items : List Parcel) (f : ℕ) → Each (λ i. IsIn i items) xs → Each (λ d. IsIn d (dues_to items f)) (dues_to xs f)
dues_within xs items f within d among =
    let k = in_dues xs f d among in
    subst (λ (x : ℕ). IsIn d (dues_to items x)) k.2 (subst (λ (y : At). IsIn y (dues_to items k.0.target)) (sym k.3) (dues_in items k.0 (within k.0 k.1)))

-- the dues of items are dues
pub dues_due : (items : List Parcel) (f : ℕ) → Each (λ i. IsDue i.due) items → Each IsDue (dues_to items f)
dues_due items f due d among = let m = in_dues items f d among in subst IsDue (sym m.3) (due m.0 m.1)

-- a stamp of a federate that hasn't finished is a stamp
pub event_is_stamp : (s : At) → IsEvent s → IsStamp s
event_is_stamp s is = (omega (arith, is.time), omega (arith, is.micro))

-- the test of a due and a cut, as numbers
reaches : (due cut : At) → IsDue due → IsEvent cut → at_most due cut ≡ nat_le (rank due) (rank cut)
reaches due cut is_due is_cut = most_of due cut (omega (arith, is_due.time), omega (arith, is_due.micro)) (event_is_stamp cut is_cut)

-- what is due by the cut is handed over
pub handed_reached : (f : ℕ) (cut : At) (i : Parcel) → IsDue i.due → IsEvent cut → i.target ≡ f → rank i.due ≤ rank cut → is_handed f cut i ≡ true
handed_reached f cut i due is to least = rw (reaches i.due cut due is) (grind (arith, nat_tests))

-- what is due above the cut isn't handed over
pub not_reached : (f : ℕ) (cut : At) (i : Parcel) → IsDue i.due → IsEvent cut → rank cut < rank i.due → is_handed f cut i ≡ false
not_reached f cut i due is above = rw (reaches i.due cut due is) (grind (arith, nat_tests))

-- nor is an item to another
pub not_theirs : (f : ℕ) (cut : At) (i : Parcel) → i.target ≢ f → is_handed f cut i ≡ false
not_theirs f cut i other = rw (ne_eqb i.target f other) refl

-- what is handed over is an item to f
pub handed_target : (f : ℕ) (cut : At) (i : Parcel) → is_handed f cut i ≡ true → i.target ≡ f
handed_target f cut i handed = grind (arith, nat_tests)

-- what is left for f is due above the cut
pub left_above : (f : ℕ) (cut : At) (i : Parcel) → IsDue i.due → IsEvent cut → i.target ≡ f → is_left f cut i ≡ true → rank cut < rank i.due
left_above f cut i due is to left = grind (arith, nat_tests)

-- what is left and what is handed over are apart
pub left_or_handed : (f : ℕ) (cut : At) (i : Parcel) → is_handed f cut i ≡ true → is_left f cut i ≡ true → ⊥
left_or_handed f cut i handed left = false≢true (sym (ap not handed) ∙ left)

-- a grant of f leaves the dues to another
pub dues_left : (items : List Parcel) (f g : ℕ) (cut : At) → f ≢ g → dues_to (filter (is_left f cut) items) g ≡ dues_to items g
dues_left items f g cut differs =
    ap (map (λ (i : Parcel). i.due))
    (filter_within (is_to g) (is_left f cut) items (λ i to. ap not (not_theirs f cut i (λ e. differs (sym e ∙ eqb-true i.target g to)))))
