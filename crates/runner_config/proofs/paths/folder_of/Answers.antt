use Rattle.std.proofs.Common.{lit<, take, ◌≡◌, ◌∙◌, Some, None, arith}
use Rattle.std.proofs.lemmas.Str.Pattern.{rfind_char}
use Rattle.runner_config.proofs.Folders.{folder_before, folder_none}
use Rattle.runner_config.proofs.paths.folder_of.Goals as goal

pub returns-in-Some : goal.returns-in-Some
returns-in-Some c =
    let slash = rfind_char 47 c.args.path.now (Some c.in-Some.at) c.in-Some.ensures.cases (lit< tt) in
    let front : c.range.result.now ≡ take c.in-Some.at c.args.path.now = grind arith in
    front ∙ folder_before c.args.path.now c.in-Some.at slash.0 slash.1 slash.2

pub returns-in-None : goal.returns-in-None
returns-in-None c = folder_none c.args.path.now (rfind_char 47 c.args.path.now None c.in-None.ensures.cases (lit< tt))
