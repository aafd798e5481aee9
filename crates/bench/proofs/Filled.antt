-- A loop that fills a lent slice from its front: what is stored so far and what is still to come are the whole row, and behind it stand the old contents.
use mathlib.Core.Path.{◌≡◌, refl, sym, ap, ap₂, ◌∙◌}
use mathlib.Core.List.{List, [], ◌++◌, append_assoc, append-nil}
use Prim.Native.Nat.{ℕ, ◌+◌, ◌≤◌}
use native.Mathlib.Omega.{arith}
use lib.ListN.{length, take, drop, length-append, length-drop}
use lib.Seq.{take_at, drop_at, drop-drop}
use Rattle.format.specs.Answers.{stored}

-- `at` elements of the row are stored over old, which makes out, and the rest is to come
pub record Filled (row old out : List ℕ) (at : ℕ) (rest : List ℕ) : Type 0 where
  pub done : List ℕ
  pub count : length done ≡ at
  pub room : at ≤ length old
  pub long : length out ≡ length old
  pub held : out ≡ done ++ drop at old
  pub whole : row ≡ done ++ rest

pub none : (row old : List ℕ) → Filled row old old 0 row
none row old = record { done = []; count = refl; room = omega arith; long = refl; held = refl; whole = refl }

module _ {row old out : List ℕ} {at : ℕ} {rest : List ℕ} (f : Filled row old out at rest) where
  done-is : take at out ≡ f.done
  done-is = ap (take at) f.held ∙ take_at f.done (drop at old) at f.count

  old-is : drop at out ≡ drop at old
  old-is = ap (drop at) f.held ∙ drop_at f.done (drop at old) at f.count

-- nothing is to come
pub all : {row old out : List ℕ} {at : ℕ} {rest : List ℕ} → Filled row old out at rest → rest ≡ [] → (at ≡ length row) × (out ≡ stored row old)
unfolding stored
all {row} {old} {out} {at} f e =
    let r : row ≡ f.done = f.whole ∙ ap (λ (l : List ℕ). f.done ++ l) e ∙ append-nil f.done in
    (sym (ap length r ∙ f.count), f.held ∙ ap₂ (λ (l : List ℕ) (n : ℕ). l ++ drop n old) (sym r) (sym (ap length r ∙ f.count)))

-- n elements more
pub more : {row old out : List ℕ} {at : ℕ} {rest : List ℕ} (new later : List ℕ) {n : ℕ} {next : List ℕ} → Filled row old out at rest
    → rest ≡ new ++ later → length new ≡ n → at + n ≤ length old → next ≡ take at out ++ (new ++ drop n (drop at out))
    → Filled row old next (at + n) later
more {row} {old} {out} {at} {rest} new later {n} {next} f e en h en' =
    let held : next ≡ (f.done ++ new) ++ drop (at + n) old = en' ∙ rw (done-is f, old-is f, drop-drop n at old, ← append_assoc f.done new (drop (at + n) old)) in
    let count : length (f.done ++ new) ≡ at + n = length-append f.done new ∙ ap₂ (λ (a b : ℕ). a + b) f.count en in
    record {
      done = f.done ++ new;
      count = count;
      room = h;
      long = ap length held ∙ simp (length-append, length-drop) (omega (arith, f.count));
      held = held;
      whole = f.whole ∙ ap (λ (l : List ℕ). f.done ++ l) e ∙ sym (append_assoc f.done new later);
    }
