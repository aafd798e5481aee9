-- The loop of `write_uvarint` on lists: what is still to be stored is the varint of the rest, and once it is stored the output is as it should be. `Writing`
-- is the loop's invariant; the other laws give it at the start, keep it for a turn, and give the output at the end and the answer by whether there is room.
use Rattle.std.proofs.Common.{◌≡◌, ℕ, ◌+◌, ◌/◌, ◌%◌, ◌^◌, ◌<◌, ◌≤◌, List, length, set, sym, refl, ap, ◌∙◌, zero-add, add-one, arith, length-set, le-leb}
use lib.Seq.{sets, sets-eq}
use borrow.Author.Tests.{lt-leb}
use Rattle.format.specs.Answers.{stored}
use Rattle.format.specs.Varint.{uvarint_len, uvarint_bytes}
use Rattle.format.specs.Standalone.{uvarint_write_outcome, uvarint_write_answer, uvarint_write_output}
use Rattle.format.proofs.Numbers.Uvarints.{length-uvarint_bytes}
use Rattle.format.proofs.Numbers.Widths.{uvarint_len-pos}
use Rattle.varint.proofs.Bytes.{uvarint_len_one, uvarint_len-more, uvarint_bytes-one, uvarint_bytes-more}
use Rattle.format.specs.Outcome.{refused, ok}

-- ---- the answer and the output

module _ (x : ℕ) (output : List ℕ) where
  pub refused_answer : length output < uvarint_len x → refused 20 (uvarint_len x) ≡ uvarint_write_answer x (length output)
  unfolding uvarint_write_answer uvarint_write_outcome
  refused_answer h = rw (lt-leb _ _ h)

  pub refused_output : length output < uvarint_len x → output ≡ uvarint_write_output x output
  unfolding uvarint_write_output uvarint_write_outcome
  refused_output h = rw (lt-leb _ _ h)

  accepted_answer : uvarint_len x ≤ length output → ok (uvarint_len x) ≡ uvarint_write_answer x (length output)
  unfolding uvarint_write_answer uvarint_write_outcome
  accepted_answer h = rw (le-leb _ _ h) (ap ok (sym (length-uvarint_bytes x)))

  accepted_output : uvarint_len x ≤ length output → sets output 0 (uvarint_bytes x) ≡ uvarint_write_output x output
  unfolding uvarint_write_output uvarint_write_outcome stored
  accepted_output h = rw (le-leb _ _ h) (sets-eq (uvarint_bytes x) output 0 (omega (arith, length-uvarint_bytes x)) ∙ simp zero-add)

-- ---- the loop

-- of x's varint all but that of `rest`, which is to come from `pos` on, is stored
pub record Writing (x : ℕ) (output out : List ℕ) (rest pos : ℕ) : Type 0 where
  pub small : rest < 2 ^ 64
  pub room : uvarint_len x ≤ length output
  pub long : length out ≡ length output
  pub ends : pos + uvarint_len rest ≡ uvarint_len x
  pub same : sets output 0 (uvarint_bytes x) ≡ sets out pos (uvarint_bytes rest)

pub begin : (x : ℕ) (output : List ℕ) → x < 2 ^ 64 → uvarint_len x ≤ length output → Writing x output output x 0
begin x output k h = record { small = k; room = h; long = refl; ends = omega arith; same = refl }

module _ {x : ℕ} {output out : List ℕ} {rest pos : ℕ} (w : Writing x output out rest pos) where
  pub inside : pos < length out
  inside = omega (arith, w.room, w.long, w.ends, uvarint_len-pos rest)

  pub again : 128 ≤ rest → Writing x output (set out pos (rest % 128 + 128)) (rest / 128) (pos + 1)
  again h =
      record {
        small = omega (arith, w.small);
        room = w.room;
        long = length-set out pos (rest % 128 + 128) ∙ w.long;
        ends = omega (arith, w.ends, uvarint_len-more rest h w.small);
        same = rw (add-one pos) (rw (uvarint_bytes-more rest h w.small) at w.same);
      }

  -- the last byte is stored after all the others
  pub answer_last : rest < 128 → ok (pos + 1) ≡ uvarint_write_answer x (length output)
  answer_last h = ap ok (omega (arith, w.ends, uvarint_len_one rest h)) ∙ accepted_answer x output w.room

  pub output_last : rest < 128 → set out pos rest ≡ uvarint_write_output x output
  output_last h = sym (rw (uvarint_bytes-one rest h) at w.same) ∙ accepted_output x output w.room
