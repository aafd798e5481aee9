-- Bytes that occur at a place of a chunk. Reading a layout goes from part to part, so every law on reading back takes the written bytes where they
-- occur, whatever comes before and after; the laws here give the place of each part of a layout from that of the whole.
use mathlib.Core.Path.{◌≡◌, sym, ap, ◌∙◌}
use Prim.Native.Nat.{ℕ, ◌+◌, ◌-◌, ◌≤◌}
use native.Mathlib.Nat.{add-zero}
use native.Mathlib.Omega.{arith}
use mathlib.Core.List.{List, [], ◌∷◌, ◌++◌, append_assoc}
use lib.ListN.{length, get_or, drop, length-append, length-drop}
use lib.Seq.{drop-append_seam, drop-drop, get_or-drop}

-- the bytes `part` occur at the place `at` of s
pub record Occurs (s : List ℕ) (at : ℕ) (part : List ℕ) : Type 0 where
  pub rest : List ℕ
  pub here : drop at s ≡ part ++ rest

-- the middle of three parts occurs after the first
pub occurs-middle : (pre part rest : List ℕ) → Occurs (pre ++ (part ++ rest)) (length pre) part
occurs-middle pre part rest = record { rest = rest; here = drop-append_seam pre (part ++ rest) }

-- the first of two parts
pub occurs-first : {s : List ℕ} {at : ℕ} (a b : List ℕ) → Occurs s at (a ++ b) → Occurs s at a
occurs-first a b h = record { rest = b ++ h.rest; here = h.here ∙ append_assoc a b h.rest }

-- the second of two parts occurs after the first
pub occurs-next : {s : List ℕ} {at : ℕ} (a b : List ℕ) → Occurs s at (a ++ b) → Occurs s (at + length a) b
occurs-next {s} {at} a b h =
    record {
      rest = h.rest;
      here = sym (drop-drop (length a) at s) ∙ ap (drop (length a)) (h.here ∙ append_assoc a b h.rest) ∙ drop-append_seam a (b ++ h.rest);
    }

-- what comes after the first byte
pub occurs-tail : {s : List ℕ} {at b : ℕ} {bs : List ℕ} → Occurs s at (b ∷ bs) → Occurs s (at + 1) bs
occurs-tail {b} {bs} h = occurs-next (b ∷ []) bs h

-- the first byte
pub occurs-byte : {s : List ℕ} {at b : ℕ} {bs : List ℕ} → Occurs s at (b ∷ bs) → get_or s at 0 ≡ b
occurs-byte {s} {at} h = ap (λ (i : ℕ). get_or s i 0) (sym (add-zero at)) ∙ sym (get_or-drop at s 0 0) ∙ ap (λ (l : List ℕ). get_or l 0 0) h.here

-- so many bytes are left
pub occurs-room : {s : List ℕ} {at : ℕ} {part : List ℕ} → Occurs s at part → length part ≤ length s - at
occurs-room {s} {at} {part} h = omega (arith, length-drop at s, simp length-append at (ap length h.here))

-- a part at another name of its place
pub occurs-at : {s : List ℕ} {at to : ℕ} {part : List ℕ} → at ≡ to → Occurs s at part → Occurs s to part
occurs-at e h = rw e at h

-- another name of the part
pub occurs-as : {s : List ℕ} {at : ℕ} {part same : List ℕ} → part ≡ same → Occurs s at part → Occurs s at same
occurs-as e h = rw e at h
