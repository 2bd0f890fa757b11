-- What a runner file says, or the first refusal.
use Rattle.std.specs.Prelude.{◌≡◌, ◌⊎◌, Bool, if◌then◌else◌, Result, Ok, Err, ⊤}
use Rattle.runner_config.specs.declared.refusal.RunnerRefusal.{RunnerRefusal}
use Rattle.runner_config.specs.declared.refusal.RunnerRefusal.TheVariants.{OutOfMemory}

abbrev pub Told : Type 0 → Type 0
Told A = Result A RunnerRefusal

abbrev pub refused_where : Bool → RunnerRefusal → Told ⊤
refused_where bad refusal = if bad then Err refusal else Ok tt

-- the code gives what is told, or memory was wanting
abbrev pub Gives : {X Y : Type 0} → (X → Y) → Result X RunnerRefusal → Told Y → Type 0
Gives seen (Ok x) told = told ≡ Ok (seen x)
Gives seen (Err e) told = (e ≡ OutOfMemory) ⊎ (told ≡ Err e)

-- the same of a whole answer
abbrev pub Answers : {A : Type 0} → Told A → Told A → Type 0
Answers result told = (result ≡ Err OutOfMemory) ⊎ (result ≡ told)
