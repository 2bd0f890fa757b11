-- The reference run from its beginning to its logs.
use Rattle.std.proofs.Common.{◌≡◌, ◌<◌, ◌+◌, ℕ, zero, suc, List, [], ◌∷◌, ◌++◌, length, drop, append_assoc, inl, inr, refl, sym, ◌∙◌, ap, subst, arith}
use Rattle.std.specs.Prelude.{map, replicate, slice_index_or}
use Rattle.std.proofs.lemmas.List.{drop_more, length_push}
use Rattle.hel_lists.specs.Members.{Each}
use Rattle.helics_time.specs.Settings.{Terms}
use Rattle.fed_script.specs.Script.{Course, IsCourse}
use Rattle.machine_laws.specs.declared.logs.FedLog.{FedLog}
use Rattle.machine_laws.specs.Machine.{State, Member, begun_member, new_member, blank_member, logs_of}
use Rattle.machine_laws.specs.Moves.{Play, opening_play, IsReference}
use Rattle.one_place.specs.declared.actor.Actor.{Actor}
use Rattle.interface_names.specs.declared.records.FederateRecord.{FederateRecord}
use Rattle.federation_plan.specs.Interfaces.{federate_at}
use Rattle.federation_plan.specs.Plan.{Federation}
use Rattle.federation_plan.specs.Wires.{wires_of}
use Rattle.one_place.specs.Reference.{names_in, course_at, first_sight, plays_of, HasReferenceLogs}
use Rattle.one_place.specs.Machine.{Stage}
use Rattle.one_place.specs.Run.{play_of, IsActor, AreActors, Goes, AreFollowing, actor_at, first_actors, begun_stage, Played}

-- one actor for each federate
actors_count : (feds : List FederateRecord) (scripts : List Course) → length scripts ≡ length feds → length (first_actors feds scripts) ≡ length feds
actors_count [] scripts same = refl
actors_count (fed ∷ feds) [] same = cc
actors_count (fed ∷ feds) (script ∷ scripts) same = ap suc (actors_count feds scripts (omega (arith, same)))

members_count : (feds : List FederateRecord) → length (map begun_member (map new_member (map (λ (fed : FederateRecord). fed.settings) feds))) ≡ length feds
members_count [] = refl
members_count (fed ∷ feds) = ap suc (members_count feds)

begun_count : (p : Federation) → length (begun_stage p).state.members ≡ length p.federates
begun_count p = members_count p.federates

first_ready : (feds : List FederateRecord) (scripts : List Course) → Each IsCourse scripts → Each IsActor (first_actors feds scripts)
first_ready [] scripts rules a among = absurd among
first_ready (fed ∷ feds) [] rules a among = absurd among
first_ready (fed ∷ feds) (script ∷ scripts) rules a among = elim among [
  | inl here ↦ subst IsActor (sym here) (record { rules = rules script (inl refl) })
  | inr later ↦ first_ready feds scripts (λ c is. rules c (inr is)) a later
]

pub first_are : (p : Federation) (scripts : List Course) → length scripts ≡ length p.federates → Each IsCourse scripts → AreActors (begun_stage p).state (first_actors p.federates scripts)
first_are p scripts each rules = record { each = actors_count p.federates scripts each ∙ sym (begun_count p); all = first_ready p.federates scripts rules }

-- and so are those that were made for these federates, where the machine has begun
pub made_are : (p : Federation) (scripts : List Course) (machine : Stage) (actors : List Actor) (feds : List FederateRecord) → length scripts ≡ length p.federates → Each IsCourse scripts →
    machine ≡ begun_stage p → actors ≡ first_actors feds scripts → feds ≡ p.federates → AreActors machine.state actors
made_are p scripts machine actors feds each rules begun made same =
    subst (λ (s : Stage). AreActors s.state actors) (sym begun)
    (subst (λ (xs : List Actor). AreActors (begun_stage p).state xs) (sym (made ∙ ap (λ (fs : List FederateRecord). first_actors fs scripts) same)) (first_are p scripts each rules))

-- one more actor
pub actors_more : (feds : List FederateRecord) (actors now : List Actor) (script : Course) (rest : List Course) (d : FederateRecord) → length actors + length (script ∷ rest) ≡ length feds →
    now ≡ actors ++ (record { script = script; view = first_sight (slice_index_or feds (length actors) d) }) ∷ [] →
    now ++ first_actors (drop (length now) feds) rest ≡ actors ++ first_actors (drop (length actors) feds) (script ∷ rest)
actors_more feds actors now script rest d same is =
    let new : Actor = record { script = script; view = first_sight (slice_index_or feds (length actors) d) } in
    let many : length now ≡ length actors + 1 = ap length is ∙ length_push actors new in
    (λ i. is i ++ first_actors (drop (many i) feds) rest) ∙ append_assoc actors (new ∷ []) (first_actors (drop (length actors + 1) feds) rest)
    ∙ ap (λ (xs : List FederateRecord). actors ++ first_actors xs (script ∷ rest)) (sym (drop_more feds (length actors) d (omega (arith, same))))

-- which has its whole script before it
first_at : (feds : List FederateRecord) (scripts : List Course) (f : ℕ) → length scripts ≡ length feds → actor_at (first_actors feds scripts) f ≡ record { script = course_at scripts f; view = first_sight (federate_at feds f) }
first_at [] [] f same = refl
first_at [] (script ∷ scripts) f same = cc
first_at (fed ∷ feds) [] f same = cc
first_at (fed ∷ feds) (script ∷ scripts) zero same = refl
first_at (fed ∷ feds) (script ∷ scripts) (suc f) same = first_at feds scripts f (omega (arith, same))

-- and is Initializing
begun_at : (feds : List FederateRecord) (f : ℕ) → f < length feds → slice_index_or (map begun_member (map new_member (map (λ (fed : FederateRecord). fed.settings) feds))) f blank_member ≡ begun_member (new_member (federate_at feds f).settings)
begun_at [] f within = absurd (omega arith)
begun_at (fed ∷ feds) zero within = refl
begun_at (fed ∷ feds) (suc f) within = begun_at feds f (omega arith)

none_called : (n f : ℕ) → slice_index_or {A = ℕ} (replicate n 0) f 0 ≡ 0
none_called zero f = refl
none_called (suc n) zero = refl
none_called (suc n) (suc f) = none_called n f

-- no federate has called
pub begun_calls : (p : Federation) → (opening_play (wires_of p)).calls ≡ replicate (length p.federates) 0
begun_calls p = none p.federates
  where
    none : (feds : List FederateRecord) → map {B = ℕ} (λ (s : Terms). 0) (map (λ (fed : FederateRecord). fed.settings) feds) ≡ replicate (length feds) 0
    none [] = refl
    none (fed ∷ feds) = ap (λ (l : List ℕ). 0 ∷ l) (none feds)

count_calls : (n : ℕ) → length {A = ℕ} (replicate n 0) ≡ n
count_calls zero = refl
count_calls (suc n) = ap suc (count_calls n)

pub first_follow : (p : Federation) (scripts : List Course) → length scripts ≡ length p.federates →
    AreFollowing (plays_of p scripts) (begun_stage p) (replicate (length p.federates) 0) (first_actors p.federates scripts)
first_follow p scripts each =
    let n : ℕ = length p.federates in
    record {
      counts = count_calls n ∙ sym (begun_count p);
      go = λ f within.
          (let known : f < length p.federates = let all = begun_count p in omega (arith, within, all) in
          let member = begun_at p.federates f known in
          subst (λ (m : Member). Goes (names_in p) (plays_of p scripts) f m (slice_index_or (replicate n 0) f 0) (actor_at (first_actors p.federates scripts) f)) (sym member)
          (subst (λ k. Goes (names_in p) (plays_of p scripts) f (begun_member (new_member (federate_at p.federates f).settings)) k (actor_at (first_actors p.federates scripts) f)) (sym (none_called n f))
          (subst (λ (a : Actor). Goes (names_in p) (plays_of p scripts) f (begun_member (new_member (federate_at p.federates f).settings)) 0 a) (sym (first_at p.federates scripts f each)) (at_first f))));
    }
  where
    at_first : (f : ℕ) → Goes (names_in p) (plays_of p scripts) f (begun_member (new_member (federate_at p.federates f).settings)) 0 (record { script = course_at scripts f; view = first_sight (federate_at p.federates f) })
    at_first f lives more k = let same : 0 + k ≡ k = omega arith in ap (λ j. plays_of p scripts f j more) same

pub made_follow : (p : Federation) (scripts : List Course) (machine : Stage) (actors : List Actor) (feds : List FederateRecord) → length scripts ≡ length p.federates →
    machine ≡ begun_stage p → actors ≡ first_actors feds scripts → feds ≡ p.federates → AreFollowing (plays_of p scripts) machine (replicate (length p.federates) 0) actors
made_follow p scripts machine actors feds each begun made same =
    let none = replicate (length p.federates) 0 in
    subst (λ (s : Stage). AreFollowing (plays_of p scripts) s none actors) (sym begun)
    (subst (λ (xs : List Actor). AreFollowing (plays_of p scripts) (begun_stage p) none xs) (sym (made ∙ ap (λ (fs : List FederateRecord). first_actors fs scripts) same)) (first_follow p scripts each))

-- what is played out to its end is the reference run
pub reference_logs : (p : Federation) (scripts : List Course) (end : State) (last : List ℕ) (logs : List FedLog) →
    Played IsReference (wires_of p) (plays_of p scripts) (play_of (begun_stage p) (replicate (length p.federates) 0)) (record { state = end; calls = last }) → logs ≡ logs_of end →
    HasReferenceLogs p scripts logs
reference_logs p scripts end last logs out are =
    let opening : play_of (begun_stage p) (replicate (length p.federates) 0) ≡ opening_play (wires_of p) = λ i. record { state = (begun_stage p).state; calls = sym (begun_calls p) i } in
    let run = subst (λ (w : Play). Played IsReference (wires_of p) (plays_of p scripts) w (record { state = end; calls = last })) opening out in
    record { feds = run.0; end = record { state = end; calls = last }; run = run.1; logs_are = are }
