-- Words of numbers: one that follows two others bit by bit, and those of a level's nodes, given those of the numbers above.
use Prim.Native.Nat.{ℕ, zero, suc, ◌+◌, ◌*◌, ◌-◌, ◌^◌, ◌≤◌, ◌<◌, min, max}
use native.Mathlib.Decide.{ℕ_discrete}
use native.Mathlib.Omega.{arith}
use mathlib.Core.Path.{◌≡◌, sym, ap, ap₂, ◌∙◌}
use mathlib.Core.Bool.{Bool, true, false, not, cond}
use mathlib.Core.Logic.{by_cases}
use mathlib.Core.List.{List}
use lib.Bits.{bit_and, bit_or}
use lib.ListN.{length, get_or, set}
use lib.Seq.{get_or-set_same, get_or-set_other}
use Rattle.diagram.specs.Diagram.{Input, bit, input_of}
use Rattle.bits.specs.Inner.Bits.{bit_of}
use Rattle.bits.proofs.Rails.{low_same}
use Rattle.bits.proofs.Bits.{ones, bit-zero, bit-ones, bit-and, bit-or, bit-not}
use Rattle.canonical.specs.Inner.Blocks.{input_at}
use Rattle.drawing.specs.Drawing.{node_count, level_in, edge_in, is_above, lead}
use Rattle.drawing.proofs.Leads.{stays, level-below, edge-above, listed_above, lead_edge}
use Rattle.truths.specs.Inner.Words.{Ready, Holds, WordIs, WordsFrom, LevelTo, From}

-- One word where a contact is closed, another where it is open.
abbrev pub chosen : ℕ → ℕ → ℕ → ℕ
chosen closed y z = bit_or (bit_and closed y) (bit_and (ones - closed) z)

pub chosen-bit : (k closed y z : ℕ) (b : Bool) → k < 64 → closed < 2 ^ 64 → bit_of k closed ≡ bit b → bit_of k (chosen closed y z) ≡ bit_of k (cond b y z)
chosen-bit k closed y z b h small e =
    bit-or k (bit_and closed y) (bit_and (ones - closed) z)
    ∙ ap₂ max (bit-and k closed y ∙ ap (λ (c : ℕ). min c (bit_of k y)) e)
    (bit-and k (ones - closed) z ∙ ap (λ (c : ℕ). min c (bit_of k z)) (bit-not k closed b h small e))
    ∙ go b
  where
    go : (b : Bool) → max (min (bit b) (bit_of k y)) (min (bit (not b)) (bit_of k z)) ≡ bit_of k (cond b y z)
    go true = omega arith
    go false = omega arith

-- The word of a number of level l or above.
pub word_of : (n : ℕ) (nodes values : List ℕ) (l u : ℕ) → WordsFrom n nodes values l → From nodes l u → WordIs n nodes values u
word_of n nodes values l zero r f = r.zero
word_of n nodes values l (suc zero) r f = r.one
word_of n nodes values l (suc (suc i)) r f =
    rw (let e : suc (suc i) ≡ 2 + i = omega arith in e) (r.above i (omega (arith, f.number)) (f.level i (omega arith)))

module _ (n : ℕ) (nodes : List ℕ) (ready : Ready n nodes) where
  pub constant-words : (values : List ℕ) → get_or values 0 0 ≡ 0 → get_or values 1 0 ≡ ones → WordsFrom n nodes values n
  constant-words values z o =
      record {
        zero = λ w. record { bits = λ k h. ap (bit_of k) z ∙ bit-zero k ∙ sym (stays nodes (input_at n (64 * w + k)) n 0 (omega arith)) };
        one = λ w. record { bits = λ k h. ap (bit_of k) o ∙ bit-ones k h ∙ sym (stays nodes (input_at n (64 * w + k)) n 1 (omega arith)) };
        above = λ i h g. absurd (omega (arith, level-below n nodes ready.sound i h));
      }

  -- A number above a level is a constant, or a listed node of the next level or above; so are a node's edges.
  above_from : (l v : ℕ) → is_above nodes l v ≡ true → From nodes (l + 1) v
  above_from l zero e = record { number = omega arith; level = λ i q. absurd (omega arith) }
  above_from l (suc zero) e = record { number = omega arith; level = λ i q. absurd (omega arith) }
  above_from l (suc (suc j)) e =
      let a = listed_above n nodes ready.sound l j e in
      record {
        number = omega (arith, a.0);
        level = λ i q. let same : j ≡ i = omega arith in omega (arith, a.1, ap (level_in nodes) same);
      }

  pub edge-from : (i : ℕ) (b : Bool) → i < node_count nodes → From nodes (level_in nodes i + 1) (edge_in nodes i b)
  edge-from i b h = above_from (level_in nodes i) (edge_in nodes i b) (edge-above n nodes ready.sound i b h)

  -- A node has the value of the edge that its contact takes.
  pub edge-value : (x : Input) (i : ℕ) (b : Bool) → i < node_count nodes → b ≡ x (level_in nodes i) →
      lead nodes x n (edge_in nodes i b) ≡ lead nodes x n (2 + i)
  edge-value x i b h e =
      ap (λ (c : Bool). lead nodes x n (edge_in nodes i c)) e
      ∙ sym (lead_edge n nodes ready.sound x i ready.contacts.0 h)
      ∙ ap (lead nodes x n) (omega arith)

  -- The word of a node of the last six levels follows those of its edges.
  module _ (i l : ℕ) (values : List ℕ) (word : ℕ) (h : i < node_count nodes) (own : level_in nodes i ≡ l) (late : n ≤ l + 6)
      (follows : (k : ℕ) → k < 64 →
      bit_of k word ≡ bit_of k (cond (input_of k (n - 1 - l)) (get_or values (edge_in nodes i true) 0) (get_or values (edge_in nodes i false) 0)))
      (r : WordsFrom n nodes values (l + 1)) where
    edge-word : (w k : ℕ) → k < 64 → (b : Bool) →
        bit_of k (cond b (get_or values (edge_in nodes i true) 0) (get_or values (edge_in nodes i false) 0))
        ≡ lead nodes (input_at n (64 * w + k)) n (edge_in nodes i b)
    edge-word w k g true = (word_of n nodes values (l + 1) _ r (rw own at (edge-from i true h)) w).bits k g
    edge-word w k g false = (word_of n nodes values (l + 1) _ r (rw own at (edge-from i false h)) w).bits k g

    pub new_word : (w : ℕ) → Holds n nodes (2 + i) w word
    new_word w =
        let place : n - 1 - l ≡ n - suc (level_in nodes i) = omega arith in
        let below = level-below n nodes ready.sound i h in
        record {
          bits = λ k g. follows k g ∙ edge-word w k g (input_of k (n - 1 - l)) ∙ edge-value (input_at n (64 * w + k)) i _ h
              (sym (low_same (64 * w) k (omega arith) g (n - 1 - l) (omega arith)) ∙ ap (input_of (64 * w + k)) place);
        }

  -- Where the word of node i is written, the others stay.
  kept_word : (i : ℕ) (values : List ℕ) (word v : ℕ) → (v ≡ 2 + i → ⊥) → WordIs n nodes values v → WordIs n nodes (set values (2 + i) word) v
  kept_word i values word v ne r w =
      record { bits = λ k h. ap (bit_of k) (get_or-set_other values (2 + i) v word 0 ne) ∙ (r w).bits k h }

  module _ (l : ℕ) where
    -- A node of another level.
    pub level-other : (values : List ℕ) (count : ℕ) → (level_in nodes count ≡ l → ⊥) → LevelTo n nodes values l count →
        LevelTo n nodes values l (count + 1)
    level-other values count ne t =
        record {
          above = t.above;
          passed = λ i h g m. by_cases (ℕ_discrete i count)
              (λ e. t.above.above i g (omega (arith, ap (level_in nodes) e, ne))) (λ other. t.passed i (omega arith) g m);
        }

    pub level-own : (values : List ℕ) (count word : ℕ) → 2 + node_count nodes ≤ length values → count < node_count nodes →
        level_in nodes count ≡ l → ((w : ℕ) → Holds n nodes (2 + count) w word) → LevelTo n nodes values l count →
        LevelTo n nodes (set values (2 + count) word) l (count + 1)
    level-own values count word room h e new t =
        let kept = kept_word count values word in
        record {
          above = record {
            zero = kept 0 (λ q. omega arith) t.above.zero;
            one = kept 1 (λ q. omega arith) t.above.one;
            above = λ i g m. kept (2 + i) (λ q. let same : i ≡ count = omega arith in omega (arith, ap (level_in nodes) same)) (t.above.above i g m);
          };
          passed = λ i g m p. by_cases (ℕ_discrete i count)
              (λ q. rw q (λ w. record { bits = λ k b. ap (bit_of k) (get_or-set_same values (2 + count) word 0 (omega arith)) ∙ (new w).bits k b }))
              (λ ne. kept (2 + i) (λ q. ne (omega arith)) (t.passed i (omega arith) m p));
        }
