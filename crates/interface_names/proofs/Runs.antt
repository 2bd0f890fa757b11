-- After any calls a registry is the list of the accepted federates, and keeps what it holds.
use Rattle.std.proofs.Common.{◌≡◌, ◌∙◌, ℕ, List, [], ◌∷◌, ◌++◌, sym, subst, append_assoc, append-nil, arith, lit≤}
use Rattle.std.specs.Prelude.{Result, Ok, Err}
use Rattle.interface_names.specs.declared.records.FederateRecord.{FederateRecord}
use Rattle.interface_names.specs.declared.registry.RegistryRefusal.{RegistryRefusal}
use Rattle.interface_names.specs.Registry.{Answers, added, IsRegistry}
use Rattle.interface_names.specs.Laws.{Call, Runs, accepted, RegistryLaws}
use Rattle.interface_names.proofs.Keeping.{keeps_with}

-- what was held, and the accepted federates behind it
holds_from : (before : List FederateRecord) (calls : List Call) (after : List FederateRecord) → Runs before calls after → after ≡ before ++ accepted calls
holds_from before [] after runs = runs ∙ sym (append-nil before)
holds_from before (c ∷ calls) after runs = go c.federate c.answer (λ between rest. holds_from between calls after rest) runs.1
  where
    go : (f : FederateRecord) (answer : Result ℕ RegistryRefusal)
        → ((between : List FederateRecord) → Runs between calls after → after ≡ between ++ accepted calls)
        → Runs (added before f answer) calls after → after ≡ before ++ accepted (record { federate = f; answer = answer } ∷ calls)
    go f (Ok number) later rest = later (before ++ f ∷ []) rest ∙ append_assoc before (f ∷ []) (accepted calls)
    go f (Err refusal) later rest = later before rest

-- a call keeps what is held
keeps_call : (before : List FederateRecord) (f : FederateRecord) (answer : Result ℕ RegistryRefusal) → IsRegistry before → Answers before f answer → IsRegistry (added before f answer)
keeps_call before f (Ok number) was says = keeps_with before f was says.0
keeps_call before f (Err refusal) was says = was

keeps_from : (before : List FederateRecord) (calls : List Call) (after : List FederateRecord) → IsRegistry before → Runs before calls after → IsRegistry after
keeps_from before [] after was runs = subst IsRegistry (sym runs) was
keeps_from before (c ∷ calls) after was runs = keeps_from (added before c.federate c.answer) calls after (keeps_call before c.federate c.answer was runs.0) runs.1

-- nothing is held
pub holds_nothing : IsRegistry []
holds_nothing = record {
  few = lit≤ tt;
  no_bad_name = λ k d below. absurd (omega arith);
  few_interfaces = λ k d below. absurd (omega arith);
  federates_once = λ i j d later below. absurd (omega arith);
  names_once = λ i j d later below. absurd (omega arith);
}

pub registry_laws : RegistryLaws
registry_laws = record {
  holds = holds_from [];
  keeps = λ calls after. keeps_from [] calls after holds_nothing;
}
