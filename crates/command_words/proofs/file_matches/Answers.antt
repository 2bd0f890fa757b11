use Rattle.std.proofs.Common.{rules, ap, ap₂, refl, sym, subst, inl, inr, ◌≡◌, ◌∙◌, IfOk, IfErr, Result, Ok, Err, true, List}
use Rattle.clap.specs.Words.{App, Text, app_of, is_simple, is_simple_and_free, rule_of, with_rule, fault_of, matches_of, FailsBy, IsAmong, HasMatchesOf, kind_of, found_of, rows_of}
use Rattle.clap.specs.Simple.{app_of_fields}
use Rattle.clap.specs.declared.parser.matches.ArgMatches.{ArgMatches}
use Rattle.clap.specs.declared.error.Error.{Error}
use Rattle.clap.specs.declared.error.kind.ErrorKind.TheVariants.{OutOfMemory}
use Rattle.clap.proofs.OnLiterals.{clap_on_literals}
use Rattle.command_words.specs.Words.{file, bare, one_file, accepts, file_rows}
use Rattle.command_words.proofs.file_matches.Goals as goal

is_free : is_simple_and_free one_file ≡ true
unfolding clap_on_literals
is_free = refl

is_plain : is_simple one_file ≡ true
unfolding clap_on_literals
is_plain = refl

-- what clap ensures of the command, said of `sim`
joined : (r : Result ArgMatches Error) (a : App) (ws : List Text) → a ≡ one_file
    → FailsBy (fault_of a ws) r → IfOk r (HasMatchesOf a ws)
    → (IfOk r (λ m. accepts ws × (rows_of (found_of m) ≡ file_rows ws)))
    × (IfErr r (λ e. (kind_of e ≡ OutOfMemory → ⊥) → accepts ws → ⊥))
unfolding accepts file_rows
joined (Ok m) a ws e f h =
    ((ap (λ (b : App). fault_of b ws) (sym e) ∙ f, (h (ap is_simple e ∙ is_plain)).0 ∙ ap (λ (b : App). matches_of b ws) e), tt)
joined (Err x) a ws e f h = (
  tt,
  λ not_memory takes. elim f [
    | inl m ↦ not_memory m
    | inr k ↦ subst (IsAmong (kind_of x)) (ap (λ (b : App). fault_of b ws) e ∙ takes) k
  ],
)

abbrev no_name : App → App
no_name a = record a { top = record a.top { no_binary_name = true } }

abbrev no_help : App → App
no_help a = record a { top = record a.top { disable_help_flag = true } }

pub returns : goal.returns
returns c =
    let file_is : rule_of c.required-file.result ≡ file = search rules in
    let bare_is : app_of c.disable_help_flag-bare.result ≡ bare = ap app_of_fields c.disable_help_flag-bare.ensures
    ∙ ap no_help (ap app_of_fields c.no_binary_name.ensures ∙ ap no_name c.new-2.ensures.app) in
    let whole_is : app_of c.in_ok-whole.whole ≡ one_file = c.in_ok-whole.ensures.shape (search rules) ∙ ap₂ with_rule bare_is file_is in
    let parse = c.try_get_matches_from in
    let both = joined parse.result _ _ whole_is (parse.ensures.kinds (ap is_simple_and_free whole_is ∙ is_free)) parse.ensures.matches in
    record { ok = both.0; err = both.1 }
