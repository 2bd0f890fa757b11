-- Federates that join one after another.
use Rattle.std.proofs.Common.{◌≡◌, List, [], ◌∷◌, ◌++◌, Option, Some, None, Ok, Err, ap, refl, sym, ◌∙◌}
use Rattle.std.specs.Bool.{⊤}
use Rattle.std.specs.Option.{option_or}
use Rattle.interface_names.specs.declared.records.FederateRecord.{FederateRecord}
use Rattle.scenario_reading.specs.declared.refusal.Refusal.{Refusal}
use Rattle.scenario_reading.specs.declared.unread.Unread.{Unread}
use Rattle.scenario_reading.specs.declared.unread.Unread.TheVariants.{FileFault, Refused, OutOfMemory}
use Rattle.scenario_reading.specs.Verdict.{Verdict, unless_refused, unrefused, nothing, Says}
use Rattle.scenario_reading.specs.Fitting.{join_refusal, names_refusal}

pub passed : {A : Type 0} (o : Option Refusal) (x y : A) → ◌≡◌ {A = Verdict A} (unless_refused o x) (Ok y) → o ≡ None
passed None x y e = refl
passed (Some r) x y e = absurd (cc)

pub unpassed : {A : Type 0} (o rest : Option Refusal) (x : A) (r : Refusal) → ◌≡◌ {A = Verdict A} (unless_refused o x) (Err r) → option_or o rest ≡ Some r
unpassed None rest x r e = absurd (cc)
unpassed (Some s) rest x r e = cc

-- one federate joins
pub joined : {A : Type 0} (earlier : List FederateRecord) (f : FederateRecord) (feds : List FederateRecord) (x y : A)
    → ◌≡◌ {A = Verdict A} (unless_refused (join_refusal earlier f) x) (Ok y) → names_refusal earlier (f ∷ feds) ≡ names_refusal (earlier ++ f ∷ []) feds
joined earlier f feds x y e = ap (λ (o : Option Refusal). option_or o (names_refusal (earlier ++ f ∷ []) feds)) (passed (join_refusal earlier f) x y e)

-- one federate doesn't
pub unjoined : {A : Type 0} (earlier : List FederateRecord) (f : FederateRecord) (feds : List FederateRecord) (x : A) (r : Refusal)
    → ◌≡◌ {A = Verdict A} (unless_refused (join_refusal earlier f) x) (Err r) → names_refusal earlier (f ∷ feds) ≡ Some r
unjoined earlier f feds x r e = unpassed (join_refusal earlier f) (names_refusal (earlier ++ f ∷ []) feds) x r e

-- where one doesn't, all don't
pub unjoined_says : {Y : Type 0} (seen : Y → List FederateRecord) (feds earlier : List FederateRecord) (f : FederateRecord) (rest : List FederateRecord) (e : Unread)
    → Says {X = ⊤} nothing (unrefused (join_refusal earlier f)) (Err e) → names_refusal earlier (f ∷ rest) ≡ names_refusal [] feds
    → Says {X = Y} seen (unless_refused (names_refusal [] feds) feds) (Err e)
unjoined_says seen feds earlier f rest (Refused r) says same =
    ap (λ (o : Option Refusal). unless_refused o feds) (sym same ∙ unjoined earlier f rest tt r says)
unjoined_says seen feds earlier f rest (FileFault path) says same = absurd says
unjoined_says seen feds earlier f rest OutOfMemory says same = tt
