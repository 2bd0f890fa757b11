-- Whether a phase is one of two that differ in their events and cuts.
use Rattle.std.proofs.Common.{◌≡◌, ◌⊎◌, inl, inr, refl}
use Rattle.std.specs.Prelude.{◌≢◌}
use Rattle.time_state.specs.declared.Cause.TheVariants.{Finished, Failed, Died, Halted}
use Rattle.time_state.specs.declared.Phase.{Phase}
use Rattle.time_state.specs.declared.Phase.TheVariants.{Created, Initializing, Entering, Running, Waiting, Ended}

pub waiting_or_not : (p : Phase) → (p ≡ Waiting) ⊎ (p ≢ Waiting)
waiting_or_not Created = inr (λ e. cc)
waiting_or_not Initializing = inr (λ e. cc)
waiting_or_not Entering = inr (λ e. cc)
waiting_or_not Running = inr (λ e. cc)
waiting_or_not Waiting = inl refl
waiting_or_not (Ended cause) = inr (λ e. cc)

pub finished_or_not : (p : Phase) → (p ≡ Ended Finished) ⊎ (p ≢ Ended Finished)
finished_or_not Created = inr (λ e. cc)
finished_or_not Initializing = inr (λ e. cc)
finished_or_not Entering = inr (λ e. cc)
finished_or_not Running = inr (λ e. cc)
finished_or_not Waiting = inr (λ e. cc)
finished_or_not (Ended Finished) = inl refl
finished_or_not (Ended Failed) = inr (λ e. cc)
finished_or_not (Ended Died) = inr (λ e. cc)
finished_or_not (Ended (Halted fed)) = inr (λ e. cc)
