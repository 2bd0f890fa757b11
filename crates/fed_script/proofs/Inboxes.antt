-- What inboxes hold after a letter more, and for how many more they have room.
use Rattle.std.proofs.Common.{ℕ, zero, suc, ◌+◌, ◌<◌, ◌≤◌, ◌≡◌, refl, ap, sym, subst, ◌∙◌, cond, eqb, true, false, List, [], ◌∷◌, ◌++◌, length, get_or, drop, arith, Some, None, inl, inr}
use Rattle.std.specs.Prelude.{slice_set, slice_get}
use Rattle.std.proofs.lemmas.Bool.{cases_eq, eq-eqb, ne_eqb}
use Rattle.std.proofs.lemmas.List.{length-set, get_or-set_same, get_or-set_other}
use Rattle.std.proofs.lemmas.List.Sums.{sum_by-cons}
use Rattle.std.proofs.lemmas.Option.{none-some, same_Some}
use Rattle.endpoint_messages.specs.declared.Letter.{Letter}
use Rattle.endpoint_messages.specs.Mail.{Mail}
use Rattle.fed_script.specs.Room.{letters_of, no_mail, count_for, HasRoom, holding, with_letter}

pub letters_past : (mails : List Mail) (n : ℕ) → slice_get mails n ≡ None → get_or (letters_of mails) n [] ≡ []
letters_past [] n none = refl
letters_past (m ∷ mails) zero none = absurd (none-some m (sym none))
letters_past (m ∷ mails) (suc n) none = letters_past mails n none

pub letters_within : (mails : List Mail) (n : ℕ) (m : Mail) → slice_get mails n ≡ Some m → get_or (letters_of mails) n [] ≡ m.letters
letters_within [] n m some = absurd (none-some m some)
letters_within (x ∷ mails) zero m some = ap (λ (y : Mail). y.letters) (same_Some x m some)
letters_within (x ∷ mails) (suc n) m some = letters_within mails n m some

pub letters_with : (mails : List Mail) (n : ℕ) (letter : Letter) → letters_of (with_letter mails n letter) ≡ slice_set (letters_of mails) n (get_or (letters_of mails) n [] ++ letter ∷ [])
letters_with [] n letter = refl
letters_with (m ∷ mails) zero letter = refl
letters_with (m ∷ mails) (suc n) letter = ap (λ (ls : List (List Letter)). m.letters ∷ ls) (letters_with mails n letter)

pub count_for_same : (n : ℕ) (letter : Letter) (letters : List (ℕ × Letter)) → count_for n ((n, letter) ∷ letters) ≡ 1 + count_for n letters
count_for_same n letter letters =
    let one : eqb n n ≡ true = eq-eqb n n refl in
    sum_by-cons (λ (l : ℕ × Letter). cond (eqb l.0 n) 1 0) (n, letter) letters ∙ ap (λ b. cond b 1 0 + count_for n letters) one

pub count_for_other : (n e : ℕ) (letter : Letter) (letters : List (ℕ × Letter)) → (n ≡ e → ⊥) → count_for e ((n, letter) ∷ letters) ≡ count_for e letters
count_for_other n e letter letters other =
    let none : eqb n e ≡ false = ne_eqb n e other in
    sum_by-cons (λ (l : ℕ × Letter). cond (eqb l.0 e) 1 0) (n, letter) letters ∙ ap (λ b. cond b 1 0 + count_for e letters) none ∙ omega arith

-- and then for the others
pub has_room_after : (mails : List Mail) (n : ℕ) (letter : Letter) (letters : List (ℕ × Letter)) → HasRoom mails ((n, letter) ∷ letters) → HasRoom (with_letter mails n letter) letters
has_room_after mails n letter letters room e within =
    let m = holding (get_or mails n no_mail) letter in
    let inside : e < length mails = omega (arith, length-set mails n m) in
    let r = room e inside in
    let P : ℕ → Type 0 = λ k. count_for k letters ≤ (get_or (with_letter mails n letter) k no_mail).spare in
    elim (cases_eq e n) [
      | inl same ↦
          let at : get_or (with_letter mails n letter) n no_mail ≡ m = get_or-set_same mails n m no_mail (omega arith) in
          let first = room n (omega arith) in
          let one = count_for_same n letter letters in
          subst P (sym same) (rw at (omega arith))
      | inr other ↦
          let at : get_or (with_letter mails n letter) e no_mail ≡ get_or mails e no_mail = get_or-set_other mails n e m no_mail other in
          let none = count_for_other n e letter letters (λ s. other (sym s)) in
          rw at (omega arith)
    ]

-- letters stay where an inbox is changed in its room alone
pub letters_kept : (mails : List Mail) (n : ℕ) (m : Mail) → m.letters ≡ (get_or mails n no_mail).letters → letters_of (slice_set mails n m) ≡ letters_of mails
letters_kept [] n m same = refl
letters_kept (x ∷ mails) zero m same = ap (λ (l : List Letter). l ∷ letters_of mails) same
letters_kept (x ∷ mails) (suc n) m same = ap (λ (ls : List (List Letter)). x.letters ∷ ls) (letters_kept mails n m same)

-- the oldest letter of an inbox is taken
pub letters_taken : (mails : List Mail) (n : ℕ) (m : Mail) → m.letters ≡ drop 1 (get_or mails n no_mail).letters → letters_of (slice_set mails n m) ≡ slice_set (letters_of mails) n (drop 1 (get_or (letters_of mails) n []))
letters_taken [] n m same = refl
letters_taken (x ∷ mails) zero m same = ap (λ (l : List Letter). l ∷ letters_of mails) same
letters_taken (x ∷ mails) (suc n) m same = ap (λ (ls : List (List Letter)). x.letters ∷ ls) (letters_taken mails n m same)
