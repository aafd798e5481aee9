-- Collecting a column's distinct values: those of the first i keys are held at the front of the scratch or wait beside it (`Gathering`), at most 16,384 together. A key that is new
-- waits; those that wait are merged when there are enough of them, and at the end. One that would be the 16,385th ends the walk, and by then there are "the first 16,384 met".
use mathlib.Core.Path.{◌≡◌, refl, sym, ap, ◌∙◌}
use mathlib.Core.Bool.{Bool, true, false, cond, ◌||◌}
use mathlib.Core.List.{List, [], ◌∷◌, ◌++◌}
use Prim.Native.Nat.{ℕ, ◌+◌, ◌-◌, ◌≤◌, ◌<◌}
use native.Mathlib.Numerals.{add-one}
use native.Mathlib.Omega.{arith}
use lib.IntN.{ℤ, pos}
use lib.Dec.{eqb}
use lib.ListN.{length, get_or, set, take, drop, length-take, length-set, take-append-drop}
use lib.Seq.{take-suc, take_all, length-take-le, drop-append-add, drop-drop, get_or-set_same, get_or-set_other}
use borrow.Author.Tests.{eqb-true, eqb-false}
use Rattle.std.specs.Prelude.{OnErr, IsOk, IfOk, IfErr, is_ok}
use Rattle.std.proofs.Common.{Ok, Err}
use Rattle.std.specs.declared.result.Result.{Result}
use Rattle.format.specs.Encodings.{max_dictionary_cardinality}
use Rattle.format.specs.Keys.{eq_z}
use Rattle.format.specs.Answers.{stored}
use Rattle.format.specs.Outcome.{ok, refused}
use Rattle.format.specs.Distinct.{insert, distinct_from, distinct, Rising, scratch_needed, collected}
use Rattle.format.proofs.Numbers.Order.{eq_z-true}
use Rattle.format.proofs.Numbers.Distinct.{insert-grows, length-insert, distinct_from-grows, length-distinct, distinct-rising}
use Rattle.format.proofs.Numbers.Distinct.{not-too_many_distinct, too_many_distinct-is, capped_distinct-all, capped_distinct-first}
use Rattle.format.proofs.Plan.Checks.{length-stored}
use Rattle.distinct.specs.Collect.{count_outcome, has, vacant}
use Rattle.distinct.specs.Sorted.{values_of, Becomes}
use Rattle.distinct.specs.declared.known.Seen.{Seen}
use Rattle.distinct.specs.declared.sorted.Sorted.{Sorted}
use Rattle.distinct.specs.Search.{slot_of}
use Rattle.distinct.specs.Seen.{Noted}
use Rattle.distinct.proofs.Members.{eq_z-self, insert-into, insert-had, insert-more, has-none, has-insert, has_both, has_new, has-still}
use Rattle.distinct.proofs.Slots.{slot_lt, vacant-other, vacant-before}
use Rattle.distinct.proofs.Inserting.{same_front, front_stored}

-- ---- distinct values, a value and a part at a time

distinct_from-append : (held xs ys : List ℤ) → distinct_from held (xs ++ ys) ≡ distinct_from (distinct_from held xs) ys
unfolding distinct_from
distinct_from-append held [] ys = refl
distinct_from-append held (x ∷ xs) ys = distinct_from-append (insert x held) xs ys

-- a part has no more than the whole
distinct-part : (i : ℕ) (column : List ℤ) → length (distinct (take i column)) ≤ length (distinct column)
unfolding distinct
distinct-part i column =
    let e : distinct_from [] column ≡ distinct_from (distinct_from [] (take i column)) (drop i column) =
    ap (distinct_from []) (sym (take-append-drop i column)) ∙ distinct_from-append [] (take i column) (drop i column) in
    rw e (distinct_from-grows (distinct_from [] (take i column)) (drop i column))

-- a value more
distinct_more : (column : List ℤ) (i : ℕ) → i < length column → distinct (take (i + 1) column) ≡ insert (get_or column i (pos 0)) (distinct (take i column))
unfolding distinct distinct_from
distinct_more column i h =
    ap (λ (n : ℕ). distinct_from [] (take n column)) (add-one i)
    ∙ ap (distinct_from []) (take-suc column i (pos 0) h)
    ∙ distinct_from-append [] (take i column) (get_or column i (pos 0) ∷ [])

-- ---- buffers

-- a longer front takes the place of a shorter one
stored-over : (front longer buffer : List ℤ) → length front ≤ length longer → stored longer (stored front buffer) ≡ stored longer buffer
unfolding stored
stored-over front longer buffer h =
    let more : length longer ≡ length front + (length longer - length front) = omega arith in
    ap (λ (l : List ℤ). longer ++ l)
    (ap (λ (n : ℕ). drop n (front ++ drop (length front) buffer)) more
    ∙ drop-append-add front (drop (length front) buffer) (length longer - length front)
    ∙ drop-drop (length longer - length front) (length front) buffer
    ∙ ap (λ (n : ℕ). drop n buffer) (sym more))

-- ---- few keys, each taken in at once

-- a result whose error cannot be
pub ok-unless : {A E P : Type 0} (r : Result A E) → OnErr r P → (P → ⊥) → IsOk r
ok-unless (Ok x) h k = refl
ok-unless (Err x) h k = absurd (k h)

-- all keys: their number is the answer, and the scratch has them
counted : (column old : List ℤ) {held i : ℕ} {s : List ℤ} → held ≡ length (distinct (take i column)) → held ≤ max_dictionary_cardinality → s ≡ stored (distinct (take i column)) old
    → length column ≤ i → (ok held ≡ count_outcome column) × (s ≡ collected column old)
unfolding collected count_outcome
counted column old {held} {i} count few are h =
    let all : take i column ≡ column = take_all i column h in
    let is : held ≡ length (distinct column) = count ∙ ap (λ (l : List ℤ). length (distinct l)) all in
    let most : length (distinct column) ≤ max_dictionary_cardinality = rw (← is) few in (
      rw (not-too_many_distinct column most) (ap ok is),
      are ∙ ap (λ (l : List ℤ). stored (distinct l) old) all ∙ ap (λ (l : List ℤ). stored l old) (sym (capped_distinct-all column most)),
    )

-- a longer front after a shorter one
becomes-then : {a b c : Sorted} {x y : List ℤ} → Becomes a b x → Becomes b c y → length x ≤ length y → Becomes a c y
becomes-then {a} {b} {c} {x} {y} f g h =
    record { same_buffer = g.same_buffer ∙ f.same_buffer; buffer = g.buffer ∙ ap (stored y) f.buffer ∙ stored-over x y a.slots.now h; count = g.count }

module _ (column : List ℤ) {old s : Sorted} (i : ℕ) (t : Becomes old s (distinct (take i column))) where
  held-are : values_of s ≡ distinct (take i column)
  held-are = front_stored (distinct (take i column)) old.slots.now t.buffer t.count

  module _ (few : length column ≤ max_dictionary_cardinality) where
    pub taking-asks : length column ≤ length old.slots.now → i < length column → (s.held ≤ max_dictionary_cardinality) × (s.held < length s.slots.now)
    taking-asks room h =
        let most : s.held ≤ i = omega (arith, t.count, length-distinct (take i column), length-take i column) in
        let long = ap length t.buffer ∙ length-stored (distinct (take i column)) old.slots.now (omega (arith, t.count)) in
        (omega arith, omega arith)

    pub taking-fits : i < length column → (v : ℤ) → length (insert v (values_of s)) ≤ max_dictionary_cardinality
    taking-fits h v = omega (arith, length-insert v (values_of s), ap length held-are, length-distinct (take i column), length-take i column)

    pub taking-done : length column ≤ i → (ok s.held ≡ count_outcome column) × (s.slots.now ≡ collected column old.slots.now)
    taking-done h = counted column old.slots.now t.count (omega (arith, t.count, length-distinct (take i column), length-take i column)) t.buffer h

  pub taking-more : i < length column → {v : ℤ} → v ≡ get_or column i (pos 0) → {next : Sorted} → Becomes s next (insert v (values_of s)) → Becomes old next (distinct (take (i + 1) column))
  taking-more h {v} e {next} n =
      let is : insert v (values_of s) ≡ distinct (take (i + 1) column) =
      ap (λ (x : ℤ). insert x (values_of s)) e ∙ ap (insert (get_or column i (pos 0))) held-are ∙ sym (distinct_more column i h) in
      becomes-then t (rw is at n) (omega (arith, ap length is, ap length held-are, insert-grows v (values_of s)))

pub taking-none : (column : List ℤ) {s : Sorted} → s.held ≡ 0 → Becomes s s (distinct (take 0 column))
unfolding distinct distinct_from stored
taking-none column e = record { same_buffer = refl; buffer = refl; count = e }

-- ---- many keys

module _ (column : List ℤ) (old : Sorted) where
  -- the distinct values of the first i
  abbrev up_to : ℕ → List ℤ
  up_to i = distinct (take i column)

  abbrev first : ℤ
  first = get_or column 0 (pos 0)

  -- those of the first i keys are held or wait; none does both, every slot has a key that was met, and a key whose slot is vacant was not
  pub record Gathering (held waiting : Sorted) (seen : Seen) (i : ℕ) : Type 0 where
    pub upto : i ≤ length column
    pub few : held.held + waiting.held ≤ max_dictionary_cardinality
    pub front : Becomes old held (values_of held)
    pub both : distinct_from (values_of held) (values_of waiting) ≡ up_to i
    pub count : held.held + waiting.held ≡ length (up_to i)
    pub met : (k : ℕ) → k < length seen.slots.now → has (up_to i) (get_or seen.slots.now k (pos 0)) ≡ true
    pub free : (x : ℤ) → vacant seen.slots.now seen.first x ≡ true → has (up_to i) x ≡ false

  -- the first key waits, and is in every slot
  pub gathering-first : 0 < length column → old.held ≡ 0 → {waiting : Sorted} {seen : Seen} (pending : List ℤ) {v : ℤ} → waiting.slots.now ≡ stored (v ∷ []) pending → waiting.held ≡ 1 → v ≡ first
      → seen.first ≡ first → ((k : ℕ) → k < length seen.slots.now → get_or seen.slots.now k (pos 0) ≡ first) → Gathering old waiting seen 1
  unfolding distinct distinct_from insert has stored
  gathering-first some none {waiting} {seen} pending {v} w n e b all =
      let one : take 1 column ≡ first ∷ [] = take-suc column 0 (pos 0) some in
      let wait : values_of waiting ≡ first ∷ [] = front_stored (v ∷ []) pending w n ∙ ap (λ (x : ℤ). x ∷ []) e in
      let empty : values_of old ≡ [] = ap (λ (k : ℕ). take k old.slots.now) none in
      record {
        upto = omega arith;
        few = omega (arith, none, n);
        front = record { same_buffer = refl; buffer = same_front old.slots.now old.held old.inside; count = none ∙ sym (ap length empty) };
        both = rw (empty, wait, one) refl;
        count = rw (none, n, one) refl;
        met = λ k h. rw (one, all k h) (ap (λ (t : Bool). t || false) (eq_z-self first));
        free = λ x f. rw one (ap (λ (t : Bool). t || false) (ap (λ (y : ℤ). eq_z y x) (sym b) ∙ vacant-other seen.slots.now seen.first x f));
      }

  module _ (needed : scratch_needed column ≤ length old.slots.now) {held waiting : Sorted} {seen : Seen} {i : ℕ} (g : Gathering held waiting seen i) where
    many : (length (values_of held) ≡ held.held) × (length (values_of waiting) ≡ waiting.held)
    many = (length-take-le held.held held.slots.now held.inside, length-take-le waiting.held waiting.slots.now waiting.inside)

    -- there is room for all that wait
    room : held.held + waiting.held ≤ length old.slots.now
    room = omega (arith, g.count, g.few, g.upto, length-distinct (take i column), length-take i column)

    long : length held.slots.now ≡ length old.slots.now
    long = ap length g.front.buffer ∙ length-stored (values_of held) old.slots.now (omega (arith, room, many.0))

    pub gathering-asks : waiting.held ≤ max_dictionary_cardinality - held.held
    gathering-asks = omega (arith, g.few)

    -- ---- merging

    pub gathering-merges : (held.held + waiting.held ≤ length held.slots.now) × (length (distinct_from (values_of held) (values_of waiting)) ≡ held.held + waiting.held)
    gathering-merges = (omega (arith, room, long), ap length g.both ∙ sym g.count)

    module _ {after : Sorted} (m : Becomes held after (distinct_from (values_of held) (values_of waiting))) where
      merged : Becomes old after (up_to i)
      merged = becomes-then g.front (rw g.both at m) (omega (arith, many.0, g.count))

      pub gathering-merged : {next : Sorted} → next.held ≡ 0 → Gathering after next seen i
      unfolding distinct_from
      gathering-merged {next} n =
          let is : values_of after ≡ up_to i = front_stored (up_to i) old.slots.now merged.buffer merged.count in
          let none : values_of next ≡ [] = ap (λ (k : ℕ). take k next.slots.now) n in
          record {
            upto = g.upto;
            few = omega (arith, g.few, merged.count, g.count, n);
            front = rw is merged;
            both = rw none is;
            count = omega (arith, merged.count, n);
            met = g.met;
            free = g.free;
          }

      -- all keys
      pub gathering-done : length column ≤ i → (ok after.held ≡ count_outcome column) × (after.slots.now ≡ collected column old.slots.now)
      gathering-done h = counted column old.slots.now merged.count (omega (arith, merged.count, g.count, g.few)) merged.buffer h

    -- a buffer that was left as it was
    pub gathering-stays : {w : Sorted} → Becomes waiting w (values_of waiting) → Gathering held w seen i
    gathering-stays {w} a =
        let is : values_of w ≡ values_of waiting = front_stored (values_of waiting) waiting.slots.now a.buffer a.count in
        record {
          upto = g.upto;
          few = omega (arith, g.few, a.count, many.1);
          front = g.front;
          both = rw is g.both;
          count = omega (arith, g.count, a.count, many.1);
          met = g.met;
          free = g.free;
        }

    -- ---- a key more

    module _ (h : i < length column) {v : ℤ} (e : v ≡ get_or column i (pos 0)) where
      next : up_to (i + 1) ≡ insert v (up_to i)
      next = distinct_more column i h ∙ ap (λ (x : ℤ). insert x (up_to i)) (sym e)

      -- what was met is not new
      known : has (up_to i) v ≡ true → up_to (i + 1) ≡ up_to i
      known t = next ∙ insert-had v (up_to i) (distinct-rising (take i column)) t

      -- what is held, or waits, was met
      has-held : has (up_to i) v ≡ (has (values_of held) v || has (values_of waiting) v)
      has-held = ap (λ (l : List ℤ). has l v) (sym g.both) ∙ has_both (values_of held) (values_of waiting) v

      -- the table once the key is in its slot
      module _ {table : Seen} (t : Noted seen table v) where
        abbrev here : ℕ
        here = slot_of v (length seen.slots.now)

        slot : here < length seen.slots.now
        slot = slot_lt v seen.some

        table-long : length table.slots.now ≡ length seen.slots.now
        table-long = ap length t.slots ∙ length-set seen.slots.now here v

        met_next : (k : ℕ) → k < length table.slots.now → has (up_to (i + 1)) (get_or table.slots.now k (pos 0)) ≡ true
        met_next k l = rw next (go (eqb k here) refl)
          where
            there : get_or table.slots.now k (pos 0) ≡ get_or (set seen.slots.now here v) k (pos 0)
            there = ap (λ (x : List ℤ). get_or x k (pos 0)) t.slots

            go : (b : Bool) → eqb k here ≡ b → has (insert v (up_to i)) (get_or table.slots.now k (pos 0)) ≡ true
            go true f =
                let is : get_or table.slots.now k (pos 0) ≡ v =
                there ∙ ap (λ (n : ℕ). get_or (set seen.slots.now here v) n (pos 0)) (eqb-true k here f) ∙ get_or-set_same seen.slots.now here v (pos 0) slot in
                rw is (has_new v (up_to i))
            go false f =
                let is : get_or table.slots.now k (pos 0) ≡ get_or seen.slots.now k (pos 0) = there ∙ get_or-set_other seen.slots.now here k v (pos 0) (eqb-false k here f) in
                rw is (has-still v (up_to i) (get_or seen.slots.now k (pos 0)) (g.met k (omega (arith, table-long))))

        free-next : (x : ℤ) → vacant table.slots.now table.first x ≡ true → has (up_to (i + 1)) x ≡ false
        free-next x f =
            let b = vacant-before seen.slots.now seen.first x v seen.some t.slots (ap (λ (y : ℤ). vacant table.slots.now y x) (sym t.first) ∙ f) in
            ap (λ (l : List ℤ). has l x) next ∙ has-insert v (up_to i) x ∙ rw (b.0, g.free x b.1)

        -- with those that wait then
        waits : (w : Sorted) → distinct_from (values_of held) (values_of w) ≡ up_to (i + 1) → held.held + w.held ≡ length (up_to (i + 1)) → held.held + w.held ≤ max_dictionary_cardinality
            → Gathering held w table (i + 1)
        waits w both count few =
            record { upto = omega arith; few = few; front = g.front; both = both; count = count; met = met_next; free = free-next }

        -- it was met before
        pub gathering-met : has (up_to i) v ≡ true → Gathering held waiting table (i + 1)
        gathering-met had = let still = known had in waits waiting (g.both ∙ sym still) (g.count ∙ ap length (sym still)) g.few

        pub gathering-known : {r : Bool} → r ≡ eq_z (get_or seen.slots.now here (pos 0)) v → r ≡ true → Gathering held waiting table (i + 1)
        gathering-known a b =
            let is = eq_z-true (get_or seen.slots.now here (pos 0)) v (sym a ∙ b) in
            gathering-met (ap (has (up_to i)) (sym is) ∙ g.met here slot)

        pub gathering-held : has (values_of held) v ≡ true → Gathering held waiting table (i + 1)
        gathering-held b = gathering-met (has-held ∙ ap (λ (t : Bool). t || has (values_of waiting) v) b)

        -- one that is not held
        module _ (b : has (values_of held) v ≡ false) where
          -- as many more are met as wait
          new-count : held.held + length (insert v (values_of waiting)) ≡ length (up_to (i + 1))
          new-count = go (has (values_of waiting) v) refl
            where
              go : (t : Bool) → has (values_of waiting) v ≡ t → held.held + length (insert v (values_of waiting)) ≡ length (up_to (i + 1))
              go true w =
                  let same = ap length (insert-had v (values_of waiting) waiting.rising w) in
                  let still = ap length (known (has-held ∙ rw (b, w))) in
                  omega (arith, same, still, g.count, many.1)
              go false w =
                  let longer = insert-more v (values_of waiting) w in
                  let next-longer = ap length next ∙ insert-more v (up_to i) (has-held ∙ rw (b, w)) in
                  omega (arith, longer, next-longer, g.count, many.1)

          pub gathering-taken : {w : Sorted} → (length (insert v (values_of waiting)) ≤ max_dictionary_cardinality - held.held) × Becomes waiting w (insert v (values_of waiting)) → Gathering held w table (i + 1)
          gathering-taken {w} a =
              let is : values_of w ≡ insert v (values_of waiting) = front_stored (insert v (values_of waiting)) waiting.slots.now a.1.buffer a.1.count in
              waits w
              (ap (distinct_from (values_of held)) is ∙ insert-into v (values_of held) (values_of waiting) ∙ ap (insert v) g.both ∙ sym next)
              (ap (λ (n : ℕ). held.held + n) a.1.count ∙ new-count)
              (omega (arith, a.0, a.1.count, g.few))

          -- one too many
          pub gathering-full : max_dictionary_cardinality - held.held < length (insert v (values_of waiting)) → {w after : Sorted} → Becomes waiting w (values_of waiting)
              → Becomes held after (distinct_from (values_of held) (values_of w)) → (refused 23 0 ≡ count_outcome column) × (after.slots.now ≡ collected column old.slots.now)
          unfolding collected count_outcome
          gathering-full over {w} {after} a f =
              let still : values_of w ≡ values_of waiting = front_stored (values_of waiting) waiting.slots.now a.buffer a.count in
              let m = merged (rw still at f) in
              let full : length (up_to i) ≡ max_dictionary_cardinality = omega (arith, over, length-insert v (values_of waiting), many.1, g.few, g.count) in
              let all : take i column ++ drop i column ≡ column = take-append-drop i column in
              let first = rw all at (capped_distinct-first (take i column) (drop i column) full) in
              let too = too_many_distinct-is column (omega (arith, over, new-count, g.few, distinct-part (i + 1) column)) in
              (rw too, m.buffer ∙ ap (λ (l : List ℤ). stored l old.slots.now) (sym first))

-- the buffer is as long as it was
pub taken-long : {waiting w : Sorted} → waiting.held < length waiting.slots.now → (v : ℤ) → Becomes waiting w (insert v (values_of waiting)) → length w.slots.now ≡ length waiting.slots.now
taken-long {waiting} h v a =
    ap length a.buffer ∙ length-stored (insert v (values_of waiting)) waiting.slots.now (omega (arith, length-insert v (values_of waiting), length-take-le waiting.held waiting.slots.now waiting.inside))

pub cleared-long : {waiting w : Sorted} → Becomes waiting w [] → length w.slots.now ≡ length waiting.slots.now
unfolding stored
cleared-long a = ap length a.buffer

-- what is found in a list
pub has_found : (r : Result ℕ ℕ) (code : ℕ) {b : Bool} → IfOk r (λ at. (at ≡ code) × (b ≡ true)) → IfErr r (λ at. (at ≡ code) × (b ≡ false)) → b ≡ is_ok r
has_found (Ok at) code f g = f.1
has_found (Err at) code f g = g.1

-- a key whose slot is vacant is not held, so none of the values held need be asked
module _ (column : List ℤ) (old : Sorted) {held waiting : Sorted} {seen : Seen} {i : ℕ} (g : Gathering column old held waiting seen i) (v : ℤ)
    {asked values : List ℤ} (k : asked ≡ cond (vacant seen.slots.now seen.first v) [] values) (is : values ≡ values_of held) where
  asks : asked ≡ cond (vacant seen.slots.now seen.first v) [] (values_of held)
  asks = k ∙ ap (cond (vacant seen.slots.now seen.first v) []) is

  pub asked-rising : Rising asked
  asked-rising = rw asks (go (vacant seen.slots.now seen.first v))
    where
      go : (t : Bool) → Rising (cond t [] (values_of held))
      go true = tt
      go false = held.rising

  pub asked_has : has asked v ≡ has (values_of held) v
  asked_has = ap (λ (l : List ℤ). has l v) asks ∙ go (vacant seen.slots.now seen.first v) refl
    where
      or_left : (a b : Bool) → (a || b) ≡ false → a ≡ false
      or_left true b f = f
      or_left false b f = refl

      go : (t : Bool) → vacant seen.slots.now seen.first v ≡ t → has (cond t [] (values_of held)) v ≡ has (values_of held) v
      go true f =
          has-none v
          ∙ sym (or_left (has (values_of held) v) (has (values_of waiting) v) (sym (ap (λ (l : List ℤ). has l v) (sym g.both) ∙ has_both (values_of held) (values_of waiting) v) ∙ g.free v f))
      go false f = refl
