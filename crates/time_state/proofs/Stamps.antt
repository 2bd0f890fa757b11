-- Stamps of requests and items.
use Rattle.std.proofs.Common.{◌≡◌, ◌⊎◌, inl, inr, ℕ, ◌+◌, ◌*◌, ◌<◌, ◌≤◌, ◌^◌, Bool, true, arith, refl, ◌∙◌, ap, max}
use Rattle.std.specs.Prelude.{nat_le, ◌==◌, ◌&&◌, if◌then◌else◌}
use Rattle.std.proofs.lemmas.Bool.{cases_lt}
use Rattle.std.proofs.lemmas.Bool.Decides.{nat_tests}
use Rattle.helics_time.specs.Time.{max_time, horizon}
use Rattle.helics_time.specs.Stamp.{At, rank, IsDue}
use Rattle.helics_time.specs.Settings.{IsTerms, up_of, delta_of, is_lawful}
use Rattle.helics_time.proofs.Up.{up_is, up_bound, up_rises, lawful_time}
use Rattle.time_state.specs.Fed.{Fed, IsFed, item_stamp, request_stamp, is_iterating}
use Rattle.iteration_rules.specs.Iteration.{iterates}
use Rattle.iteration_rules.specs.declared.Mode.{Mode}
use Rattle.iteration_rules.specs.declared.Mode.TheVariants.{Next, Force, IfNeeded}
use Rattle.time_state.specs.declared.Phase.TheVariants.{Waiting}

-- an item's stamp, where x is the least time above now at which it may be handed over
abbrev pub stamp_by : Bool → ℕ → ℕ → ℕ → At → At
stamp_by it now m x d =
    if it && nat_le d.time now
    then record { time = now; micro = if d.time == now then max (m + 1) d.micro else m + 1 }
    else (if x == d.time then d else record { time = x; micro = 0 })

-- that time
pub time_of : Fed → At → ℕ
time_of f d = up_of f.settings (max d.time (f.last.time + delta_of f.settings))

-- it is above the last grant (now, m)
pub by_above : (it : Bool) (now m x : ℕ) (d : At) → now < x → d.time ≤ x → m < 2 ^ 63 → d.micro < 2 ^ 64 → now * 2 ^ 64 + m < rank (stamp_by it now m x d)
by_above it now m x d later after small due = grind (arith, nat_tests)

-- it isn't below the due
pub by_due : (it : Bool) (now m x : ℕ) (d : At) → now < x → d.time ≤ x → m < 2 ^ 63 → d.micro < 2 ^ 64 → rank d ≤ rank (stamp_by it now m x d)
by_due it now m x d later after small due = grind (arith, nat_tests)

-- it rises with the due
pub by_rises : (it : Bool) (now m x y : ℕ) (d e : At) → now < x → d.time ≤ x → x ≤ y → e.time ≤ y → (d.time ≡ e.time → x ≡ y) → m < 2 ^ 63 → d.micro < 2 ^ 64 → e.micro < 2 ^ 64 → rank d ≤ rank e →
    rank (stamp_by it now m x d) ≤ rank (stamp_by it now m y e)
by_rises it now m x y d e later after le after_e same small due due_e rises = grind (arith, nat_tests)

-- what is known of that time
pub record IsTime (f : Fed) (d : At) (x : ℕ) : Type 0 where
  pub later : f.last.time < x
  pub after : d.time ≤ x
  pub bound : x ≤ max_time
  pub lawful : (x ≡ max_time) ⊎ (x < horizon)
  pub small : f.last.micro < 2 ^ 62 + 20000

pub time_is : (f : Fed) (d : At) → IsFed f → f.phase ≡ Waiting → d.time ≤ max_time → IsTime f d (time_of f d)
unfolding time_of
time_is f d fed waits due =
    let low : f.last.time < horizon = fed.waiting waits in
    let terms : IsTerms f.settings = fed.settings in
    let y : ℕ = max d.time (f.last.time + delta_of f.settings) in
    let fits : y ≤ max_time = omega arith in
    let is = up_is f.settings y fits in
    let bound = up_bound f.settings y fits in
    record {
      later = omega arith;
      after = omega arith;
      bound = bound;
      lawful = lawful_time f.settings (up_of f.settings y) is.holds;
      small = omega (arith, fed.micro, fed.count);
    }

-- it rises with the due's
pub time_rises : (f : Fed) (d e : At) → IsFed f → f.phase ≡ Waiting → e.time ≤ max_time → d.time ≤ e.time → time_of f d ≤ time_of f e
unfolding time_of
time_rises f d e fed waits due le =
    let low : f.last.time < horizon = fed.waiting waits in
    let terms : IsTerms f.settings = fed.settings in
    up_rises f.settings (max d.time (f.last.time + delta_of f.settings)) (max e.time (f.last.time + delta_of f.settings)) (omega arith) (omega arith)

-- an item's stamp is above the last grant
pub item_above : (f : Fed) (d : At) → IsFed f → f.phase ≡ Waiting → IsDue d → rank f.last < rank (item_stamp f d)
unfolding time_of
item_above f d fed waits due =
    let t = time_is f d fed waits (omega arith) in
    by_above (iterates f.request.mode) f.last.time f.last.micro (time_of f d) d t.later t.after (omega arith) (omega arith)

-- it isn't below the due
pub due_below : (f : Fed) (d : At) → IsFed f → f.phase ≡ Waiting → IsDue d → rank d ≤ rank (item_stamp f d)
unfolding time_of
due_below f d fed waits due =
    let t = time_is f d fed waits (omega arith) in
    by_due (iterates f.request.mode) f.last.time f.last.micro (time_of f d) d t.later t.after (omega arith) (omega arith)

-- it rises with the due
pub item_rises : (f : Fed) (d e : At) → IsFed f → f.phase ≡ Waiting → IsDue d → IsDue e → rank d ≤ rank e → rank (item_stamp f d) ≤ rank (item_stamp f e)
unfolding time_of
item_rises f d e fed waits due due_e rises =
    let t = time_is f d fed waits (omega arith) in
    let u = time_is f e fed waits (omega arith) in
    by_rises (iterates f.request.mode) f.last.time f.last.micro (time_of f d) (time_of f e) d e t.later t.after
    (time_rises f d e fed waits (omega arith) (omega arith)) u.after
    (λ same. (let l1 = time_rises f d e fed waits (omega arith) (omega arith) in
    let l2 = time_rises f e d fed waits (omega arith) (omega arith) in omega arith)) (omega arith) (omega arith) (omega arith) rises

-- a grant of a waiting federate iterates where the time stays
pub iterating_waits : (f : Fed) (s : At) → f.phase ≡ Waiting → is_iterating f s ≡ (s.time == f.last.time)
iterating_waits f s waits = rw waits refl

-- s lies above the last grant, within bounds
pub record Goes (f : Fed) (s : At) : Type 0 where
  pub rises : rank f.last < rank s
  pub time : (s.time < horizon) ⊎ (s.time ≡ max_time)
  pub micro : s.micro ≤ 2 ^ 62 + 2 + f.count
  pub micro_new : f.last.time < s.time → s.micro ≤ 2 ^ 62 + 1
  pub same : s.time ≡ f.last.time → f.count < f.settings.max_iterations

-- so do an item's stamp and that of a request
pub item_goes : (f : Fed) (d : At) → IsFed f → f.phase ≡ Waiting → IsDue d → Goes f (item_stamp f d)
unfolding time_of
item_goes f d fed waits due =
    let t = time_is f d fed waits (omega arith) in
    let may = fed.may_iterate waits in
    let micro = fed.micro in
    let x : ℕ = time_of f d in
    record {
      rises = item_above f d fed waits due;
      time = goes_time (iterates f.request.mode) f.last.time f.last.micro x d t.lawful (fed.waiting waits);
      micro = goes_micro (iterates f.request.mode) f.last.time f.last.micro x f.count d micro due.micro;
      micro_new = goes_new (iterates f.request.mode) f.last.time f.last.micro x d due.micro;
      same = goes_same (iterates f.request.mode) f.last.time f.last.micro x f.count f.settings.max_iterations d t.later may;
    }
  where
    goes_time : (it : Bool) (now m x : ℕ) (d : At) → (x ≡ max_time) ⊎ (x < horizon) → now < horizon → ((stamp_by it now m x d).time < horizon) ⊎ ((stamp_by it now m x d).time ≡ max_time)
    goes_time it now m x d lawful low = elim (cases_lt (stamp_by it now m x d).time horizon) [ inl l ↦ inl l | inr h ↦ inr (at_max it now m x d lawful low h) ]
      where
        at_max : (it : Bool) (now m x : ℕ) (d : At) → (x ≡ max_time) ⊎ (x < horizon) → now < horizon → horizon ≤ (stamp_by it now m x d).time → (stamp_by it now m x d).time ≡ max_time
        at_max it now m x d lawful low high = grind (arith, nat_tests)

    goes_micro : (it : Bool) (now m x n : ℕ) (d : At) → m ≤ 2 ^ 62 + 1 + n → d.micro ≤ 2 ^ 62 + 1 → (stamp_by it now m x d).micro ≤ 2 ^ 62 + 2 + n
    goes_micro it now m x n d small due = grind (arith, nat_tests)

    goes_new : (it : Bool) (now m x : ℕ) (d : At) → d.micro ≤ 2 ^ 62 + 1 → now < (stamp_by it now m x d).time → (stamp_by it now m x d).micro ≤ 2 ^ 62 + 1
    goes_new it now m x d due later = grind (arith, nat_tests)

    goes_same : (it : Bool) (now m x n most : ℕ) (d : At) → now < x → (it ≡ true → n < most) → (stamp_by it now m x d).time ≡ now → n < most
    goes_same it now m x n most d later may same = grind (arith, nat_tests)

pub request_goes : (f : Fed) → IsFed f → f.phase ≡ Waiting → Goes f (request_stamp f)
unfolding time_of
request_goes f fed waits =
    let due : At = record { time = f.request.time; micro = 0 } in
    let t = time_is f due fed waits fed.asked in
    by_mode f.request.mode (fed.may_iterate waits) t.later t.lawful (fed.waiting waits) fed.micro
  where
    x : ℕ
    x = up_of f.settings (max f.request.time (f.last.time + delta_of f.settings))

    stamp : Mode → At
    stamp Force = record { time = f.last.time; micro = f.last.micro + 1 }
    stamp m = record { time = x; micro = 0 }

    by_mode : (m : Mode) → (iterates m ≡ true → f.count < f.settings.max_iterations) → f.last.time < x → (x ≡ max_time) ⊎ (x < horizon) → f.last.time < horizon → f.last.micro ≤ 2 ^ 62 + 1 + f.count → Goes f (stamp m)
    by_mode Force may later lawful low small = record { rises = omega arith; time = inl low; micro = omega arith; micro_new = λ h. omega arith; same = λ e. may refl }
    by_mode Next may later lawful low small = record { rises = omega arith; time = elim lawful [ inl e ↦ inr e | inr l ↦ inl l ]; micro = omega arith; micro_new = λ h. omega arith; same = λ e. absurd (omega arith) }
    by_mode IfNeeded may later lawful low small = record { rises = omega arith; time = elim lawful [ inl e ↦ inr e | inr l ↦ inl l ]; micro = omega arith; micro_new = λ h. omega arith; same = λ e. absurd (omega arith) }

-- s lies on the grid, or is an iteration that was asked for
pub record Steps (f : Fed) (s : At) : Type 0 where
  pub next : (s.time ≡ f.last.time → ⊥) → (is_lawful f.settings s.time ≡ true) × (f.last.time + delta_of f.settings ≤ s.time)
  pub same : s.time ≡ f.last.time → iterates f.request.mode ≡ true

-- so do an item's stamp and that of a request
pub item_steps : (f : Fed) (d : At) → IsFed f → f.phase ≡ Waiting → IsDue d → Steps f (item_stamp f d)
unfolding time_of
item_steps f d fed waits due =
    let low : f.last.time < horizon = fed.waiting waits in
    let terms : IsTerms f.settings = fed.settings in
    let y : ℕ = max d.time (f.last.time + delta_of f.settings) in
    let t = time_is f d fed waits (omega arith) in
    let fits : y ≤ max_time = omega arith in
    let is = up_is f.settings y fits in
    let x : ℕ = time_of f d in
    record {
      next = λ differs.
          (let e = moved (iterates f.request.mode) f.last.time f.last.micro x d differs in
          (ap (is_lawful f.settings) e ∙ is.holds, (let after = is.after in omega (arith, e, after))));
      same = λ e. stays (iterates f.request.mode) f.last.time f.last.micro x d t.later e;
    }
  where
    moved : (it : Bool) (now m x : ℕ) (d : At) → ((stamp_by it now m x d).time ≡ now → ⊥) → (stamp_by it now m x d).time ≡ x
    moved it now m x d differs = grind (arith, nat_tests)

    stays : (it : Bool) (now m x : ℕ) (d : At) → now < x → (stamp_by it now m x d).time ≡ now → it ≡ true
    stays it now m x d later e = grind (arith, nat_tests)

pub request_steps : (f : Fed) → IsFed f → f.phase ≡ Waiting → Steps f (request_stamp f)
request_steps f fed waits =
    let low : f.last.time < horizon = fed.waiting waits in
    let terms : IsTerms f.settings = fed.settings in
    let asked : f.request.time ≤ max_time = fed.asked in
    let y : ℕ = max f.request.time (f.last.time + delta_of f.settings) in
    let is = up_is f.settings y (omega arith) in
    by_mode f.request.mode is.holds (let after = is.after in omega (arith, after)) (let after = is.after in omega (arith, after))
  where
    x : ℕ
    x = up_of f.settings (max f.request.time (f.last.time + delta_of f.settings))

    stamp : Mode → At
    stamp Force = record { time = f.last.time; micro = f.last.micro + 1 }
    stamp m = record { time = x; micro = 0 }

    by_mode : (m : Mode) → is_lawful f.settings x ≡ true → f.last.time + delta_of f.settings ≤ x → f.last.time < x → Steps (record f { request = record { time = f.request.time; mode = m } }) (stamp m)
    by_mode Force lawful after later = record { next = λ differs. absurd (differs refl); same = λ e. refl }
    by_mode Next lawful after later = record { next = λ differs. (lawful, after); same = λ e. absurd (omega arith) }
    by_mode IfNeeded lawful after later = record { next = λ differs. (lawful, after); same = λ e. absurd (omega arith) }
