-- What files tell decides what is printed.
use Rattle.std.proofs.Common.{◌≡◌, ◌∙◌, ℕ, ◌≤◌, ◌<◌, inl, inr, false, List, [], ◌∷◌, length, Option, Some, None, Result, Ok, Err, IsSome, refl, sym, ap, subst, arith, String}
use Rattle.std.specs.Prelude.{is_err, OnOk}
use Rattle.std.specs.declared.alloc.Global.{Global}
use Rattle.std.proofs.lemmas.Bool.{false≢true, cases_lt}
use Rattle.std.proofs.lemmas.Option.{none-some, same_Some}
use Rattle.hel_outside.specs.Faults.{file_limit, GainsPart}
use Rattle.interface_names.specs.declared.records.FederateRecord.{FederateRecord}
use Rattle.dependency_paths.specs.Paths.{AreAncestors}
use Rattle.dependency_paths.proofs.Ancestry.{ancestor_laws}
use Rattle.machine_laws.specs.Machine.{logs_of}
use Rattle.machine_laws.specs.Plan.{Plan}
use Rattle.machine_laws.specs.Moves.{Scripts, Play, opening_play, move, IsUpToFailure, failed_in}
use Rattle.federation_plan.specs.Plan.{Federation, IsFederation}
use Rattle.federation_plan.specs.Depends.{depends}
use Rattle.federation_plan.specs.Waiting.{IsFirstWait, ComesFirst}
use Rattle.federation_plan.specs.Wires.{wires_of}
use Rattle.log_text.specs.Check.{check_of}
use Rattle.fed_script.specs.Script.{Course}
use Rattle.one_place.specs.Reference.{plays_of}
use Rattle.command_words.specs.declared.Asked.{Asked}
use Rattle.command_words.specs.declared.Verb.{Verb}
use Rattle.command_words.specs.declared.Verb.TheVariants.{Check, Sim}
use Rattle.command_words.specs.Words.{IsAsked}
use Rattle.scenario_reading.specs.Order.{Given, bytes, too_large, Order, ends, asks, MayGive, Reads, AsksFor}
use Rattle.scenario_reading.specs.Fitting.{Scene}
use Rattle.scenario_reading.specs.Reading.{setting_at, scenario_at}
use Rattle.scenario_reading.specs.declared.refusal.Refusal.{Refusal}
use Rattle.helics_run.specs.declared.printing.Printed.{Printed}
use Rattle.helics_run.specs.declared.status.Status.{Status}
use Rattle.helics_run.specs.Printing.{Content, IsRunOf, IsTextOf, PrintsBy, RefusesBy, AsksBy, run_printed}
use Rattle.helics_run.specs.Command.{texts, HasVerb, Prints, Refuses, TellsAll, Stands}
use Rattle.helics_run.specs.declared.failure.Failure.{Failure}
use Rattle.helics_run.specs.declared.failure.Failure.TheVariants.{FileFault, Refused}
use Rattle.scenario_reading.proofs.Orders.{ok_same, ok_not_err}
use Rattle.helics_run.specs.Answers.{Answers, Tells}

-- ---- what is read

-- where the bytes are told, one thing alone is given
given_once : (told : Option (List ℕ)) (g h : Given) → IsSome told → MayGive told g → MayGive told h → g ≡ h
given_once None g h is first second = absurd (false≢true is)
given_once (Some b) (bytes x) (bytes y) is first second = ap bytes (first.0 ∙ sym second.0)
given_once (Some b) (bytes x) too_large is first second =
    let P : List ℕ → Type 0 = λ l. length l ≤ file_limit in
    let small : length b ≤ file_limit = subst P first.0 first.1 in
    absurd (omega arith)
given_once (Some b) too_large (bytes y) is first second =
    let P : List ℕ → Type 0 = λ l. length l ≤ file_limit in
    let small : length b ≤ file_limit = subst P second.0 second.1 in
    absurd (omega arith)
given_once (Some b) too_large too_large is first second = refl

-- an order over files that tell all has one end
reads_once : {A : Type 0} (content : Content) (order : Order A) (one other : Result A Refusal)
    → ((path : List ℕ) → AsksFor content order path → IsSome (content path)) → Reads content order one → Reads content order other → one ≡ other
reads_once content (ends end) one other tells first second = first ∙ sym second
reads_once {A} content (asks path next) one other tells first second =
    let same : second.0 ≡ first.0 = given_once (content path) second.0 first.0 (tells path (inl refl)) second.1.0 first.1.0 in
    let P : Given → Type 0 = λ g. Reads content (next g) other in
    reads_once content (next first.0) one other (λ p asked. tells p (inr (first.0, (first.1.0, asked)))) first.1.1 (subst P same second.1.1)

-- ---- what is asked for

asked_once : (words : List (List ℕ)) (a b : Asked) → IsAsked words a → IsAsked words b → a ≡ b
asked_once [] a b first second = absurd first
asked_once (word ∷ rest) a b first second =
    let verb : a.verb ≡ b.verb = same_Some a.verb b.verb (sym first.0 ∙ second.0) in
    let file : a.file ≡ b.file = first.2 ∙ sym second.2 in
    (λ i. record { verb = verb i; file = file i })

-- ---- what is run

-- federates over a tree have one plan
one_plan : (p q : Federation) → p.federates ≡ q.federates → p.tree ≡ q.tree → IsFederation p → IsFederation q → p ≡ q
one_plan p q same tree first second =
    let P : List FederateRecord → Type 0 = λ fs. AreAncestors (length fs) (depends fs) q.ancestors in
    let rows : p.ancestors ≡ q.ancestors = ancestor_laws.one _ _ p.ancestors q.ancestors first.closed (subst P (sym same) second.closed) in
    (λ i. record { federates = same i; tree = tree i; ancestors = rows i })

-- from one place the run up to a failure ends in one way
record EndAlike (failed other : Option ℕ) (a b : Play) : Type 0 where
  failures : failed ≡ other
  ends_are : a ≡ b

one_end : (p : Plan) (scripts : Scripts) (w a b : Play) (fs gs : List ℕ) (failed other : Option ℕ) → IsUpToFailure p scripts w fs failed a → IsUpToFailure p scripts w gs other b → EndAlike failed other a b
one_end p scripts w a b [] [] failed other first second = record { failures = first.1 ∙ sym second.1; ends_are = first.0 ∙ sym second.0 }
one_end p scripts w a b [] (g ∷ gs) failed other first second = absurd (none-some second.0 (sym (first.2 g) ∙ second.1))
one_end p scripts w a b (f ∷ fs) [] failed other first second = absurd (none-some first.0 (sym (second.2 f) ∙ first.1))
one_end p scripts w a b (f ∷ fs) (g ∷ gs) failed other first second = elim (cases_lt f g) [
  | inl less ↦ absurd (none-some first.0 (sym (second.2 f less) ∙ first.1))
  | inr past ↦ elim (cases_lt g f) [
    | inl less ↦ absurd (none-some second.0 (sym (first.2 g less) ∙ second.1))
    | inr least ↦
        let same : g ≡ f = omega arith in
        let moved : move p scripts f w ≡ Some second.0 = ap (λ (n : ℕ). move p scripts n w) (sym same) ∙ second.1 in
        let next : second.0 ≡ first.0 = same_Some second.0 first.0 (sym moved ∙ first.1) in
        let fails : failed_in second.0 g ≡ failed_in first.0 f = (λ i. failed_in (next i) (same i)) in
        elim first.3 [
          | inl ended ↦ elim second.3 [
            | inl also ↦ record { failures = ended.2 ∙ ap Some (sym same) ∙ sym also.2; ends_are = ended.3 ∙ sym next ∙ sym also.3 }
            | inr lives ↦ absurd (false≢true (sym lives.0 ∙ fails ∙ ended.0))
          ]
          | inr lives ↦ elim second.3 [
            | inl ended ↦ absurd (false≢true (sym lives.0 ∙ sym fails ∙ ended.0))
            | inr also ↦ one_end p scripts first.0 a b fs gs failed other lives.1 (subst (λ (x : Play). IsUpToFailure p scripts x gs other b) next also.1)
          ]
        ]
  ]
]

-- scripts over a plan have one run, and it prints one thing
one_run : (plan : Federation) (scripts : List Course) (p q : Printed) → IsRunOf plan scripts p → IsRunOf plan scripts q → p ≡ q
one_run plan scripts p q first second =
    let alike = one_end (wires_of plan) (plays_of plan scripts) (opening_play (wires_of plan)) first.run.end second.run.end first.run.feds second.run.feds first.failed second.failed first.run.run second.run.run in
    let logs : first.logs ≡ second.logs = first.run.logs_are ∙ ap (λ (w : Play). logs_of w.state) alike.ends_are ∙ sym second.run.logs_are in
    first.printed ∙ (λ i. run_printed plan.federates (alike.failures i) (logs i)) ∙ sym second.printed

-- a plan has one text
one_pair : (plan : Federation) (a b : Option (ℕ × ℕ)) → IsFirstWait plan a → IsFirstWait plan b → a ≡ b
one_pair plan None None first second = refl
one_pair plan None (Some pair) first second = absurd (first pair.0 pair.1 second.0)
one_pair plan (Some pair) None first second = absurd (second pair.0 pair.1 first.0)
one_pair plan (Some (a, b)) (Some (c, d)) first second = same (first.1 c d second.0) (second.1 a b first.0)
  where
    same : ComesFirst a b c d → ComesFirst c d a b → ◌≡◌ {A = Option (ℕ × ℕ)} (Some (a, b)) (Some (c, d))
    same (inl less) (inl more) = absurd (omega (arith, less, more))
    same (inl less) (inr (e, more)) = absurd (omega (arith, less, e))
    same (inr (e, less)) (inl more) = absurd (omega (arith, e, more))
    same (inr (e, less)) (inr (f, more)) = let equal : b ≡ d = omega (arith, less, more) in (λ i. Some (e i, equal i))

one_text : (plan : Federation) (p q : Printed) → IsTextOf plan p → IsTextOf plan q → p ≡ q
one_text plan p q first second =
    let out : p.out ≡ q.out = first.out.is ∙ ap (check_of plan) (one_pair plan first.out.pair second.out.pair first.out.first second.out.first) ∙ sym second.out.is in
    let status : p.status ≡ q.status = first.status ∙ sym second.status in
    let err : p.err ≡ q.err = first.err ∙ sym second.err in
    (λ i. record { status = status i; out = out i; err = err i })

-- ---- what is printed

tells_check : (content : Content) (words : List (List ℕ)) (a : Asked) → IsAsked words a → TellsAll content words → (path : List ℕ) → AsksBy content a.verb a.file path → IsSome (content path)
tells_check content words a asked tells path asks_for = tells path (a, asked, asks_for)

printed_by : (content : Content) (verb : Verb) (file : List ℕ) (p q : Printed) → ((path : List ℕ) → AsksBy content verb file path → IsSome (content path)) → PrintsBy content verb file p → PrintsBy content verb file q → p ≡ q
printed_by content Check file p q tells first second =
    let settings = ok_same first.setting second.setting (reads_once content (setting_at file) (Ok first.setting) (Ok second.setting) tells first.read second.read) in
    let feds = first.is.federates ∙ ap (λ (s : Scene (Option Course)). s.federates) settings ∙ sym second.is.federates in
    let trees = first.is.tree ∙ ap (λ (s : Scene (Option Course)). s.tree) settings ∙ sym second.is.tree in
    let plans = one_plan second.plan first.plan (sym feds) (sym trees) second.is.is first.is.is in
    one_text first.plan p q first.text (subst (λ (plan : Federation). IsTextOf plan q) plans second.text)
printed_by content Sim file p q tells first second =
    let scenarios = ok_same first.scenario second.scenario (reads_once content (scenario_at file) (Ok first.scenario) (Ok second.scenario) tells first.read second.read) in
    let feds = first.is.federates ∙ ap (λ (s : Scene Course). s.federates) scenarios ∙ sym second.is.federates in
    let trees = first.is.tree ∙ ap (λ (s : Scene Course). s.tree) scenarios ∙ sym second.is.tree in
    let plans = one_plan second.plan first.plan (sym feds) (sym trees) second.is.is first.is.is in
    let there = subst (λ (plan : Federation). IsRunOf plan second.scenario.scripts q) plans second.run in
    one_run first.plan first.scenario.scripts p q first.run (subst (λ (s : Scene Course). IsRunOf first.plan s.scripts q) (sym scenarios) there)

pub prints_once : (content : Content) (words : List (List ℕ)) (p q : Printed) → TellsAll content words → Prints content words p → Prints content words q → p ≡ q
prints_once content words p q tells first second =
    let same = asked_once words second.0 first.0 second.1 first.1 in
    let there = subst (λ (a : Asked). PrintsBy content a.verb a.file q) same second.2 in
    printed_by content first.0.verb first.0.file p q (tells_check content words first.0 first.1 tells) first.2 there

-- nothing is both printed and refused
refused_by : (content : Content) (verb : Verb) (file : List ℕ) (p : Printed) (r : Refusal) → ((path : List ℕ) → AsksBy content verb file path → IsSome (content path)) → PrintsBy content verb file p → RefusesBy content verb file r → ⊥
refused_by content Check file p r tells prints refuses = ok_not_err prints.setting r (reads_once content (setting_at file) (Ok prints.setting) (Err r) tells prints.read refuses)
refused_by content Sim file p r tells prints refuses = ok_not_err prints.scenario r (reads_once content (scenario_at file) (Ok prints.scenario) (Err r) tells prints.read refuses)

pub not_both : (content : Content) (words : List (List ℕ)) (p : Printed) (r : Refusal) → TellsAll content words → Prints content words p → Refuses content words r → ⊥
not_both content words p r tells prints refuses =
    let same = asked_once words refuses.0 prints.0 refuses.1 prints.1 in
    let there = subst (λ (a : Asked). RefusesBy content a.verb a.file r) same refuses.2 in
    refused_by content prints.0.verb prints.0.file p r (tells_check content words prints.0 prints.1 tells) prints.2 there

-- a status that was told stands, unless the sink failed
pub told_stands : (due status other : Status) (line : List ℕ) (written_before written_after : Option (List ℕ)) (faults_before faults_after : ℕ)
    → Tells due line status written_before written_after faults_before faults_after → due ≡ other → Stands other status
told_stands due status other line wb wa fb fa told same = elim told [
  | inl written ↦ inl (written.0 ∙ same)
  | inr failed ↦ inr (inl failed.0)
]

-- where the sink failed, it gained a part of the line
pub part_told : (due status : Status) (line : List ℕ) (written_before written_after : Option (List ℕ)) (faults_before faults_after : ℕ) (May : List ℕ → Type 0)
    → Tells due line status written_before written_after faults_before faults_after → May line → faults_before < faults_after
    → (told : List ℕ) × May told × GainsPart written_before written_after told
part_told due status line wb wa fb fa May told may rose = elim told [
  | inl written ↦ absurd (omega (arith, rose, written.2))
  | inr failed ↦ (line, may, failed.2)
]

-- what a call that didn't fail ensures
pub where_ok : {T E : Type 0} (r : Result T E) (P : Type 0) → is_err r ≡ false → OnOk r P → P
where_ok (Ok x) P held holds = holds
where_ok (Err e) P held holds = absurd (cc)

-- ---- what the program answers

-- what was printed is what these words ask for
pub print_made : (content : Content) (words given : List (String Global)) (p : Printed) → given ≡ words → Answers content (texts given) (Ok p) → Prints content (texts words) p
print_made content words given p same answered = subst (λ (w : List (String Global)). Answers content (texts w) (Ok p)) same answered

pub refusal_made : (content : Content) (words given : List (String Global)) (failure : Failure) (r : Refusal) → given ≡ words → failure ≡ Refused r → Answers content (texts given) (Err failure) → Refuses content (texts words) r
refusal_made content words given failure r same is answered =
    let P : List (String Global) → Failure → Type 0 = λ w f. Answers content (texts w) (Err f) in
    subst (λ (f : Failure). P words f) is (subst (λ (w : List (String Global)). P w failure) same answered)

-- words that ask for something begin with one of the program's
verb_there : (words : List (List ℕ)) (a : Asked) → IsAsked words a → HasVerb words
verb_there [] a asked = absurd asked
verb_there (word ∷ rest) a asked = subst (λ (v : Option Verb). IsSome v) (sym asked.0) refl

pub file_verb : (content : Content) (words given : List (String Global)) (failure : Failure) (path : List ℕ) → given ≡ words → failure ≡ FileFault path
    → Answers content (texts given) (Err failure) → HasVerb (texts words)
file_verb content words given failure path same is answered =
    let P : List (String Global) → Failure → Type 0 = λ w f. Answers content (texts w) (Err f) in
    let asks = subst (λ (f : Failure). P words f) is (subst (λ (w : List (String Global)). P w failure) same answered) in
    verb_there (texts words) asks.0 asks.1

pub refusal_verb : (content : Content) (words : List (List ℕ)) (r : Refusal) → Refuses content words r → HasVerb words
refusal_verb content words r refuses = verb_there words refuses.0 refuses.1

-- so what is told decides the status
pub decided_by : (content : Content) (words : List (List ℕ)) (p q : Printed) (status : Status) → TellsAll content words → Prints content words p → Prints content words q → Stands p.status status → Stands q.status status
decided_by content words p q status tells made prints stands = subst (λ (x : Printed). Stands x.status status) (prints_once content words p q tells made prints) stands
