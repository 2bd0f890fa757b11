-- The items to one federate, of all in canonical order, are a queue.
use Rattle.std.proofs.Common.{◌≡◌, inl, inr, ℕ, refl, sym, ◌∙◌, ap, List, [], ◌∷◌}
use Rattle.std.specs.List.{filter}
use Rattle.std.proofs.lemmas.Bool.{cases_Bool}
use Rattle.std.proofs.lemmas.Bool.Decides.{Decides-eqb}
use Rattle.hel_lists.specs.Members.{Each}
use Rattle.hel_lists.proofs.Members.{in_filter}
use Rattle.due_queue.specs.Item.{Parcel, is_to}
use Rattle.due_queue.specs.Order.{comes_before, is_sooner, InOrder, InDueOrder, insert, enqueue}
use Rattle.due_queue.specs.Laws.{CanonicalLaws, QueueLaws}
use Rattle.due_queue.proofs.Sorted.{filter_in_order, insert_by_first, insert_by_later, insert_by_in_order}
use Rattle.due_queue.proofs.Order.{one_target, is_sooner_order, insert_ordered, filter_ordered, insert_commutes, filter_inserts, filter_skips}
use Rattle.due_queue.proofs.Dues.{cut_splits, first_least}
use Rattle.due_queue.proofs.Runs.{runs_arrange, arranged_one}

-- items to one federate that are in canonical order are in a queue's
in_due_order : (f : ℕ) (xs : List Parcel) → Each (λ x. x.target ≡ f) xs → InOrder xs → InDueOrder xs
in_due_order f [] targets order = tt
in_due_order f (x ∷ xs) targets order = (
  (λ j among. sym (one_target j x (targets j (inr among) ∙ sym (targets x (inl refl)))) ∙ order.0 j among),
  in_due_order f xs (λ y among. targets y (inr among)) order.1,
)

-- among them an insertion is one into a queue
insert_puts : (i : Parcel) (xs : List Parcel) → Each (λ x. x.target ≡ i.target) xs → insert i xs ≡ enqueue i xs
insert_puts i [] targets = refl
insert_puts i (x ∷ xs) targets =
    let alike = one_target i x (sym (targets x (inl refl))) in
    elim (cases_Bool (comes_before i x)) [
      | inl first ↦ insert_by_first comes_before i x xs first ∙ sym (insert_by_first is_sooner i x xs (sym alike ∙ first))
      | inr later ↦
          insert_by_later comes_before i x xs later ∙ ap (λ (l : List Parcel). x ∷ l) (insert_puts i xs (λ y among. targets y (inr among)))
          ∙ sym (insert_by_later is_sooner i x xs (sym alike ∙ later))
    ]

-- those to a federate have it for their target
targets_to : (f : ℕ) (xs : List Parcel) → Each (λ x. x.target ≡ f) (filter (is_to f) xs)
targets_to f xs = λ x among. (Decides-eqb x.target f).0 (in_filter (is_to f) xs x among).1

-- the laws of the canonical order
pub canonical_laws : CanonicalLaws
canonical_laws = record {
  inserts = insert_ordered;
  filters = filter_ordered;
  commutes = insert_commutes;
  one_target = one_target;
  queue = λ f items order. in_due_order f (filter (is_to f) items) (targets_to f items) (filter_ordered (is_to f) items order);
  put = λ i items order. filter_inserts (is_to i.target) i items order ((Decides-eqb i.target i.target).1 refl) ∙ insert_puts i (filter (is_to i.target) items) (targets_to i.target items);
  put_elsewhere = λ f i items fails. filter_skips (is_to f) i items fails;
}

-- the laws of a queue's order and of queues
pub queue_laws : QueueLaws
queue_laws = record {
  puts = insert_by_in_order is_sooner is_sooner_order;
  filters = filter_in_order is_sooner;
  splits = cut_splits;
  least = first_least;
  runs = runs_arrange;
  one = arranged_one;
}
