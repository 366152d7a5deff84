-- Lines worked out in batches, one after the other: at each bit they obey the run rule.
use Prim.Native.Nat.{ℕ, zero, suc, ◌+◌, ◌*◌, ◌≤◌, ◌<◌, min, max}
use native.Mathlib.Numerals.{add-one}
use native.Mathlib.Omega.{arith}
use mathlib.Core.Path.{◌≡◌, refl, sym, ap, ap₂, ◌∙◌}
use mathlib.Core.Bool.{Bool, true, false, not, cond}
use mathlib.Core.List.{List, [], ◌∷◌, ◌++◌, append_assoc, map, map-append}
use lib.Bits.{bit_and, bit_or}
use lib.Dec.{eqb}
use lib.ListN.{length, get_or, take, set, length-map, length-set}
use lib.Seq.{length-take-le, take-suc-set, get_or-take}
use Rattle.diagram.specs.Diagram.{Input, input_of, bit}
use Rattle.netlist.specs.declared.Hold.{Hold}
use Rattle.netlist.specs.Netlist.{gate_at, gate_line, gates_of, level_of, net_of}
use Rattle.fields.specs.Bounded.{listed}
use Rattle.simulation.specs.Run.{Driver, rail, gate, drive, work_out, gate_of, held, holding, values_of}
use Rattle.fields.proofs.Listed.{listed_more}
use Rattle.simulation.proofs.Runs.{run-append}
use Rattle.rules.specs.Code.{code_rails}
use Rattle.faults.specs.Betrayal.{stuck_at}
use Rattle.batches.specs.Inner.Batches.{gate_batch, held_batch, held_line, source_of, rule_of}
use Rattle.search.proofs.Sites.{taken, held-once, sourced-gate}
use Rattle.bits.specs.Inner.Bits.{bit_of, bits_of}
use Rattle.bits.proofs.Bits.{bits_at, bit-and, bit-or}

pub made-bit : (k word kind a b : ℕ) → kind ≤ 1 → bit_of k word ≡ kind →
    bit_of k (gate_batch word a b) ≡ gate_of kind (bit_of k a) (bit_of k b)
made-bit k word kind a b l e =
    bit-or k (bit_and a b) (bit_and (bit_or a b) word)
    ∙ ap₂ max (bit-and k a b) (bit-and k (bit_or a b) word ∙ ap₂ min (bit-or k a b) e)
    ∙ two-of-three kind (bit_of k a) (bit_of k b) l (omega arith) (omega arith)
  where
    two-of-three : (kind a b : ℕ) → kind ≤ 1 → a ≤ 1 → b ≤ 1 → max (min a b) (min (max a b) kind) ≡ gate_of kind a b
    two-of-three zero a b l m n = omega arith
    two-of-three (suc zero) a b l m n = omega arith
    two-of-three (suc (suc kind)) a b l m n = absurd (omega arith)

module _ (k : ℕ) (h : Hold) where
  -- What a rail shows.
  rail-bit : (x b line batch made shown : ℕ) → 2 ≤ x → line ≡ held_line h 0 → bit_of k batch ≡ level_of h → bit_of k made ≡ b →
      shown ≡ held_batch line batch x made → bit_of k shown ≡ held (h ∷ []) x 0 b
  rail-bit x b line batch made shown l el ev em es = taken h x 0 b l el ev em (ap (bit_of k) es ∙ go (eqb line x)) ∙ held-once h x b
    where
      go : (q : Bool) → bit_of k (cond q batch made) ≡ cond q (bit_of k batch) (bit_of k made)
      go true = refl
      go false = refl

  source : (ws : List ℕ) (x i : ℕ) → i < x → bit_of k (get_or ws i 0) ≡ get_or (bits_of k (take x ws)) i 0
  source ws x i l = ap (bit_of k) (sym (get_or-take x ws i 0 l)) ∙ sym (bits_at k (take x ws) i)

  size : (ws : List ℕ) (x : ℕ) → x < length ws → length (bits_of k (take x ws)) ≡ x
  size ws x l = length-map (take x ws) (bit_of k) ∙ length-take-le x ws (omega arith)

  -- One line more.
  put-line : (ws vs : List ℕ) (x shown : ℕ) (ds : List (Driver ℕ)) (d : Driver ℕ) → x < length ws →
      bit_of k shown ≡ held (h ∷ []) x 0 (drive (rule_of h) (bits_of k (take x ws)) d) →
      bits_of k (take x ws) ≡ work_out (rule_of h) ds vs →
      bits_of k (take (x + 1) (set ws x shown)) ≡ work_out (rule_of h) (ds ++ (d ∷ [])) vs
  unfolding work_out
  put-line ws vs x shown ds d l es e =
      rw (add-one x, take-suc-set ws x shown l)
      (map-append (bit_of k) (take x ws) (shown ∷ [])
      ∙ ap (λ (v : ℕ). bits_of k (take x ws) ++ (v ∷ []))
      (es ∙ ap (λ (y : ℕ). held (h ∷ []) y 0 (drive (rule_of h) (bits_of k (take x ws)) d)) (sym (size ws x l)))
      ∙ ap (work_out (rule_of h) (d ∷ [])) e
      ∙ sym (run-append (rule_of h) ds (d ∷ []) vs))

  -- A contact's two rails more.
  pub rails-more : (ws vs : List ℕ) (x : Input) (i line batch on off t f : ℕ) → gate_line (i + 1) ≤ length ws →
      line ≡ held_line h 0 → bit_of k batch ≡ level_of h → bit_of k on ≡ bit (x i) → bit_of k off ≡ bit (not (x i)) →
      t ≡ held_batch line batch (2 + 2 * i) on → f ≡ held_batch line batch (2 + 2 * i + 1) off →
      bits_of k (take (gate_line i) ws) ≡ work_out (rule_of h) (map rail (code_rails i x)) vs →
      bits_of k (take (gate_line (i + 1)) (set (set ws (2 + 2 * i) t) (2 + 2 * i + 1) f))
      ≡ work_out (rule_of h) (map rail (code_rails (i + 1) x)) vs
  unfolding code_rails drive
  rails-more ws vs x i line batch on off t f l el ev eo en et ef e =
      let rails = map rail (code_rails i x) in
      let on-rail = rail (bit (x i)) in
      let off-rail = rail (bit (not (x i))) in
      let room : 2 + 2 * i + 1 < length (set ws (2 + 2 * i) t) = rw length-set (omega arith) in
      let next : gate_line (i + 1) ≡ 2 + 2 * i + 1 + 1 = omega arith in
      rw next
      (put-line (set ws (2 + 2 * i) t) vs (2 + 2 * i + 1) f (rails ++ (on-rail ∷ [])) off-rail room
      (rail-bit (2 + 2 * i + 1) (bit (not (x i))) line batch off f (omega arith) el ev en ef)
      (put-line ws vs (2 + 2 * i) t rails on-rail (omega arith) (rail-bit (2 + 2 * i) (bit (x i)) line batch on t (omega arith) el ev eo et) e)
      ∙ ap (λ (ds : List (Driver ℕ)). work_out (rule_of h) ds vs)
      (append_assoc rails (on-rail ∷ []) (off-rail ∷ [])
      ∙ sym (map-append rail (code_rails i x) (bit (x i) ∷ bit (not (x i)) ∷ []))
      ∙ ap (λ (n : ℕ). map rail (code_rails n x)) (sym (add-one i))))

  -- A gate more.
  pub gates-more : (ws vs gates : List ℕ) (first g shown : ℕ) → first + g < length ws →
      (gate_at gates g).left < first + g → (gate_at gates g).right < first + g →
      bit_of k shown
      ≡ gate_of (get_or gates (5 * g) 0) (source_of h (first + g) 1 (bit_of k (get_or ws (gate_at gates g).left 0)))
      (source_of h (first + g) 2 (bit_of k (get_or ws (gate_at gates g).right 0))) →
      bits_of k (take (first + g) ws) ≡ work_out (rule_of h) (map gate (listed (gate_at gates) g 0)) vs →
      bits_of k (take (first + (g + 1)) (set ws (first + g) shown)) ≡ work_out (rule_of h) (map gate (listed (gate_at gates) (g + 1) 0)) vs
  unfolding drive
  gates-more ws vs gates first g shown l ll lr es e =
      let x = first + g in
      let kind = get_or gates (5 * g) 0 in
      let next : first + (g + 1) ≡ x + 1 = omega arith in
      let vs-at : ℕ → ℕ = λ i. get_or (bits_of k (take x ws)) i 0 in
      let made : ℕ → ℕ → ℕ → ℕ = λ y a b. gate_of kind (held (h ∷ []) y 1 a) (held (h ∷ []) y 2 b) in
      rw next
      (put-line ws vs x shown (map gate (listed (gate_at gates) g 0)) (gate (gate_at gates g)) l
      (es ∙ sourced-gate h x kind _ _
      ∙ ap (held (h ∷ []) x 0)
      (ap₂ (made x) (source ws x _ ll) (source ws x _ lr) ∙ ap (λ (y : ℕ). made y (vs-at (gate_at gates g).left) (vs-at (gate_at gates g).right)) (sym (size ws x l))))
      e
      ∙ ap (λ (ds : List (Driver ℕ)). work_out (rule_of h) ds vs)
      (sym (ap (map gate) (listed_more (gate_at gates) g) ∙ map-append gate (listed (gate_at gates) g 0) (gate_at gates g ∷ []))))

-- The constants' batches.
pub constants : (k : ℕ) (ws : List ℕ) (low high : ℕ) → bit_of k low ≡ 0 → bit_of k high ≡ 1 → 2 ≤ length ws →
    bits_of k (take 2 (set (set ws 0 low) 1 high)) ≡ 0 ∷ 1 ∷ []
constants k [] low high el eh h = absurd (omega arith)
constants k (a ∷ []) low high el eh h = absurd (omega arith)
constants k (a ∷ b ∷ ws) low high el eh h = ap₂ (λ (x y : ℕ). x ∷ y ∷ []) el eh

-- A run is the constants, then the rails, then the gates.
pub run-parts : (n : ℕ) (gates : List ℕ) (h : Hold) (a : ℕ) →
    work_out (holding (h ∷ [])) (map gate (gates_of gates)) (work_out (holding (h ∷ [])) (map rail (code_rails n (input_of a))) (0 ∷ 1 ∷ []))
    ≡ stuck_at (net_of n gates []) h a
unfolding stuck_at values_of
run-parts n gates h a =
    sym (run-append (holding (h ∷ [])) (map rail (code_rails n (input_of a))) (map gate (gates_of gates)) (0 ∷ 1 ∷ []))
