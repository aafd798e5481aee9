-- What a caller learns from an answer: what reading finds by format's definitions, and that the next place lies past the first and within the bytes. Both come
-- from the cases of the definitions: only a walk that ends gives a value, and it ends after a byte that is there.
use Rattle.std.proofs.Common.{◌≡◌, ℕ, zero, suc, ◌+◌, ◌<◌, ◌≤◌, Bool, true, false, cond, ltb, List, [], ◌∷◌, length, drop, refl, arith, length-drop}
use Rattle.format.specs.Outcome.{Outcome, refused, ok, ◌>>=◌}
use Rattle.format.specs.Keys.{zigzag, unzigzag}
use Rattle.format.specs.Varint.{Uvarint, uvarint_end, uvarint_value, ends_unpadded, read_uvarint}
use Rattle.format.specs.Standalone.{Varint, read_varint}
use Rattle.number.proofs.ZigZag.{zigzag-unzigzag}

-- ---- what reading finds, by what a signed reading finds

module _ (s : List ℕ) (at : ℕ) where
  -- a key is read where its ZigZag is
  pub signed-read : {v : Varint} → read_varint s at ≡ ok v → read_uvarint s at ≡ ok (record { value = zigzag v.value; next = v.next; unpadded = v.unpadded })
  unfolding read_varint
  signed-read {v} e = go (read_uvarint s at) e
    where
      key : Uvarint → Varint
      key u = record { value = unzigzag u.value; next = u.next; unpadded = u.unpadded }

      go : (o : Outcome Uvarint) → (o >>= λ u. ok (key u)) ≡ ok v → o ≡ ok (record { value = zigzag v.value; next = v.next; unpadded = v.unpadded })
      go (refused number offset) h = let z : ◌≡◌ {A = ℕ} 0 1 = cc in absurd (omega arith)
      go (ok u) h =
          let k : key u ≡ v = cc in
          rw (← k, zigzag-unzigzag u.value)

  pub signed-refused : {number offset : ℕ} → read_varint s at ≡ refused number offset → read_uvarint s at ≡ refused number offset
  unfolding read_varint
  signed-refused {number} {offset} e = go (read_uvarint s at) e
    where
      key : Uvarint → Outcome Varint
      key u = ok (record { value = unzigzag u.value; next = u.next; unpadded = u.unpadded })

      go : (o : Outcome Uvarint) → (o >>= key) ≡ refused number offset → o ≡ refused number offset
      go (refused n k) h = cc
      go (ok u) h = let z : ◌≡◌ {A = ℕ} 0 1 = cc in absurd (omega arith)

-- ---- the next place

-- a walk that ends has passed a byte, and none that is not there
end-range : (start left : ℕ) (rest : List ℕ) (at next : ℕ) → uvarint_end start left rest at ≡ ok next → (at < next) × (next ≤ at + length rest)
unfolding uvarint_end
end-range start left [] at next e = let z : ◌≡◌ {A = ℕ} 0 1 = cc in absurd (omega arith)
end-range start zero (b ∷ rest) at next e = let z : ◌≡◌ {A = ℕ} 0 1 = cc in absurd (omega arith)
end-range start (suc left) (b ∷ rest) at next e = go (ltb b 128) e (end-range start left rest (at + 1) next)
  where
    go : (last : Bool) → cond last (ok (at + 1)) (uvarint_end start left rest (at + 1)) ≡ ok next
        → (uvarint_end start left rest (at + 1) ≡ ok next → (at + 1 < next) × (next ≤ at + 1 + length rest))
        → (at < next) × (next ≤ at + suc (length rest))
    go true h i = let n : at + 1 ≡ next = cc in (omega arith, omega arith)
    go false h i = (omega (arith, (i h).0), omega (arith, (i h).1))

-- past the first and within the bytes; the value is that of the bytes between
pub read-range : (s : List ℕ) (at : ℕ) (v : Uvarint) → read_uvarint s at ≡ ok v
    → (at < v.next) × (v.next ≤ length s) × (v.value ≡ uvarint_value s at v.next)
unfolding read_uvarint
read-range s at v e = go (uvarint_end at 10 (drop at s) at) refl e
  where
    found : ℕ → Uvarint
    found next = record { value = uvarint_value s at next; next = next; unpadded = ends_unpadded s at next }

    go : (end : Outcome ℕ) → uvarint_end at 10 (drop at s) at ≡ end → (end >>= (λ next. ok (found next))) ≡ ok v
        → (at < v.next) × (v.next ≤ length s) × (v.value ≡ uvarint_value s at v.next)
    go (refused number offset) p h = let z : ◌≡◌ {A = ℕ} 0 1 = cc in absurd (omega arith)
    go (ok next) p h =
        let q : found next ≡ v = cc in
        let r = end-range at 10 (drop at s) at next p in
        rw (← q) (r.0, omega (arith, length-drop at s, r.0, r.1), refl)
