-- Scripts, where each federate has one.
use Rattle.std.proofs.Common.{◌≡◌, ◌+◌, ℕ, suc, List, [], ◌∷◌, ◌++◌, length, Option, Some, None, IfSome, Ok, ap, refl, subst, sym, inl, inr, ◌∙◌}
use Rattle.std.specs.Bool.{⊤}
use Rattle.std.specs.List.{position_from}
use Rattle.std.specs.Option.{is_none, option_map}
use Rattle.hel_lists.specs.Members.{Each}
use Rattle.fed_script.specs.Script.{Course, IsCourse}
use Rattle.interface_names.specs.declared.records.FederateRecord.{FederateRecord}
use Rattle.scenario_reading.specs.declared.refusal.Refusal.{Refusal}
use Rattle.scenario_reading.specs.Verdict.{Verdict, unrefused}
use Rattle.scenario_reading.specs.Fitting.{federate_name, script_refusal, scripts_in}
use Rattle.scenario_reading.proofs.Names.{passed}

-- one more script, and one more federate without
pub kept : (scripts : List (Option Course)) (s : Course) → scripts_in (scripts ++ Some s ∷ []) ≡ scripts_in scripts ++ s ∷ []
kept [] s = refl
kept (None ∷ scripts) s = kept scripts s
kept (Some x ∷ scripts) s = ap (λ (l : List Course). x ∷ l) (kept scripts s)

pub passed_over : (scripts : List (Option Course)) → scripts_in (scripts ++ None ∷ []) ≡ scripts_in scripts
passed_over [] = refl
passed_over (None ∷ scripts) = passed_over scripts
passed_over (Some x ∷ scripts) = ap (λ (l : List Course). x ∷ l) (passed_over scripts)

-- none is missing
pub all_there : (f : ℕ) (scripts : List (Option Course)) → position_from is_none f scripts ≡ None → length (scripts_in scripts) ≡ length scripts
all_there f [] e = refl
all_there f (None ∷ scripts) e = absurd (cc)
all_there f (Some s ∷ scripts) e = ap suc (all_there (f + 1) scripts e)

pub each_there : (scripts : List (Option Course)) → Each (λ (s : Option Course). IfSome s IsCourse) scripts → Each IsCourse (scripts_in scripts)
each_there [] each x among = absurd among
each_there (None ∷ scripts) each x among = each_there scripts (λ y in_rest. each y (inr in_rest)) x among
each_there (Some s ∷ scripts) each x among = elim among [
  | inl here ↦ subst IsCourse (sym here) (each (Some s) (inl refl))
  | inr later ↦ each_there scripts (λ y in_rest. each y (inr in_rest)) x later
]

-- what comes of no value comes of none
pub none_before : {A B : Type 0} (f : A → B) (o : Option A) → option_map f o ≡ None → o ≡ None
none_before f None e = refl
none_before f (Some x) e = absurd (cc)

-- where no federate is refused, each has a script
pub as_many : (feds : List FederateRecord) (given scripts : List (Option Course)) (all : List Course)
    → ◌≡◌ {A = Verdict ⊤} (unrefused (script_refusal feds given)) (Ok tt) → given ≡ scripts → all ≡ scripts_in scripts → length all ≡ length scripts
as_many feds given scripts all says is are =
    let none = none_before (λ (f : ℕ). Refusal.NoScript (federate_name feds f)) (position_from is_none 0 given) (passed (script_refusal feds given) tt tt says) in
    ap length are ∙ all_there 0 scripts (subst (λ (ss : List (Option Course)). position_from is_none 0 ss ≡ None) is none)
