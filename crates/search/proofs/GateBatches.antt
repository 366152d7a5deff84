-- The gates' batches, one gate after the other, made by the sources that were taken.
use Prim.Native.Nat.{ℕ, zero, suc, ◌+◌, ◌*◌, ◌/◌, ◌≤◌, ◌<◌}
use native.Mathlib.Nat.{add-zero}
use native.Mathlib.Omega.{arith}
use mathlib.Core.Path.{◌≡◌, refl, sym, ap, ap₂, ◌∙◌}
use mathlib.Core.Bool.{true}
use mathlib.Core.List.{List, [], ◌∷◌, map}
use lib.ListN.{length, get_or, take, set, length-set}
use Rattle.std.proofs.lemmas.List.{map-set}
use Rattle.netlist.specs.declared.Hold.{Hold}
use Rattle.netlist.specs.Netlist.{gate_at, level_of}
use Rattle.fields.specs.Bounded.{listed}
use lib.Seq.{get_or-set_other, get_or-take}
use Rattle.simulation.specs.Run.{Rule, Driver, gate, gate_of, work_out}
use Rattle.wiring.specs.Questions.{are_gates}
use Rattle.wiring.proofs.Tests.{gates-at}
use Rattle.batches.specs.declared.batch.TwoBatches.{TwoBatches}
use Rattle.batches.specs.Inner.Batches.{at, none, gate_batch, source_of, rule_of, AreConstants}
use Rattle.bits.specs.Inner.Bits.{bit_of, bits_of}
use Rattle.search.specs.declared.passes.Sources.{Sources}
use Rattle.search.specs.Inner.Taken.{blank, SourcesTaken}
use Rattle.search.proofs.Halves.{half-at}
use Rattle.search.proofs.Sites.{source-map, source_in}
use Rattle.search.proofs.Lines.{made-bit, gates-more}
use Rattle.bits.proofs.Bits.{bits_at}
use Rattle.simulation.proofs.Runs.{run-first}

-- At each bit the lines below gate g obey the run rule, and the constants are as they were.
pub record MadeBatches (gates : List ℕ) (first : ℕ) (h : Hold) (before ws : List ℕ) (g : ℕ) : Type 0 where
  pub size : length ws ≡ length before
  pub constant : (v : ℕ) → v ≤ 1 → get_or ws v 0 ≡ get_or before v 0
  pub bits : (k : ℕ) → k < 64 →
      bits_of k (take (first + g) ws) ≡ work_out (rule_of h) (map gate (listed (gate_at gates) g 0)) (bits_of k (take first before))

-- What the gates' batches are worked out from: gates whose sources are below their own lines, room for every line, and the constants.
pub record GatesReady (first : ℕ) (h : Hold) (gates : List ℕ) (sources : List Sources) (batches : List ℕ) : Type 0 where
  pub after : 2 ≤ first
  pub fits : first + length gates / 5 ≤ length batches
  pub wired : are_gates first gates ≡ true
  pub taken : SourcesTaken first h (length gates / 5) gates sources
  pub constant : AreConstants batches

-- What a gate of a kind makes of the lines' batches, from the sources that were taken.
abbrev batch-of : List ℕ → ℕ → Sources → ℕ
batch-of ws kind x = gate_batch (get_or ws kind 0) (get_or ws x.left 0) (get_or ws x.right 0)

module _ (gates : List ℕ) (first : ℕ) (h : Hold) (before : List ℕ) where
  pub none_made : MadeBatches gates first h before before 0
  unfolding work_out listed
  none_made =
      record { size = refl; constant = λ v l. refl; bits = λ k l. ap (λ (x : ℕ). bits_of k (take x before)) (add-zero first) }

  -- A gate more.
  more-made : (taken : List Sources) (ws : List ℕ) (g made : ℕ) → GatesReady first h gates taken before → g < length gates / 5 →
      made ≡ batch-of ws (get_or gates (5 * g) 0) (get_or taken g blank) → MadeBatches gates first h before ws g →
      MadeBatches gates first h before (set ws (first + g) made) (g + 1)
  more-made taken ws g made p l em m =
      let on = gates-at first gates p.wired g l in
      let after = p.after in
      let kind = get_or gates (5 * g) 0 in
      record {
        size = simp length-set m.size;
        constant = λ v lv. get_or-set_other ws (first + g) v made 0 (λ e. omega arith) ∙ m.constant v lv;
        bits = λ k lk.
            let same : (v : ℕ) → v ≤ 1 → bit_of k (get_or ws v 0) ≡ v = λ v lv. ap (bit_of k) (m.constant v lv) ∙ p.constant k v lk lv in
            let sourced : (pin t : ℕ) →
            bit_of k (get_or ws (source_of h (first + g) pin t) 0) ≡ source_of h (first + g) pin (bit_of k (get_or ws t 0)) =
            λ pin t. source-map h (first + g) (λ (i : ℕ). bit_of k (get_or ws i 0)) pin t (same (level_of h) (omega arith)) in
            gates-more k h ws _ gates first g made (omega (arith, p.fits, m.size)) on.left on.right
            (ap (bit_of k) (em ∙ ap (batch-of ws kind) (p.taken g l)) ∙ made-bit k _ kind _ _ on.kind (same kind on.kind)
            ∙ ap₂ (gate_of kind) (sourced 1 _) (sourced 2 _))
            (m.bits k lk);
      }

-- A gate's kind is a constant's line, and the sources that were taken are below its own line.
module _ {first : ℕ} {h : Hold} {gates ws : List ℕ} {taken : List Sources} (p : GatesReady first h gates taken ws) (g : ℕ)
    (l : g < length gates / 5) where
  line-high : 2 ≤ first + g
  line-high = let after = p.after in omega arith

  pub kind-in : get_or gates (5 * g) 0 ≤ 1
  kind-in = (gates-at first gates p.wired g l).kind

  pub left_in : (get_or taken g blank).left < first + g
  left_in = rw (p.taken g l) (source_in h (first + g) 1 _ _ (gates-at first gates p.wired g l).left line-high)

  pub right-in : (get_or taken g blank).right < first + g
  right-in = rw (p.taken g l) (source_in h (first + g) 2 _ _ (gates-at first gates p.wired g l).right line-high)

-- A gate more in one of each line's two batches.
pub half-made : (p : TwoBatches → ℕ) → p none ≡ 0 → (gates : List ℕ) (first : ℕ) (h : Hold) (before ws : List TwoBatches) (taken : List Sources) (g : ℕ)
    (made : TwoBatches) → GatesReady first h gates taken (map p before) → g < length gates / 5 →
    p made ≡ gate_batch (p (at ws (get_or gates (5 * g) 0))) (p (at ws (get_or taken g blank).left)) (p (at ws (get_or taken g blank).right)) →
    MadeBatches gates first h (map p before) (map p ws) g →
    MadeBatches gates first h (map p before) (map p (set ws (first + g) made)) (g + 1)
half-made p clear gates first h before ws taken g made ready l e m =
    let kind = get_or gates (5 * g) 0 in
    let x = get_or taken g blank in
    let half = half-at p clear ws in
    rw (map-set p ws (first + g) made)
    (more-made gates first h (map p before) taken (map p ws) g (p made) ready l
    (e ∙ (λ i. gate_batch (half kind i) (half x.left i) (half x.right i))) m)

-- The constants' lines after the rails.
pub constant-held : (k : ℕ) (rule : Rule ℕ) (ds : List (Driver ℕ)) (ws : List ℕ) (first v : ℕ) → v < 2 → 2 ≤ first →
    bits_of k (take first ws) ≡ work_out rule ds (0 ∷ 1 ∷ []) → bit_of k (get_or ws v 0) ≡ v
constant-held k rule ds ws first v l h e =
    ap (bit_of k) (sym (get_or-take first ws v 0 (omega arith))) ∙ sym (bits_at k (take first ws) v)
    ∙ ap (λ (vs : List ℕ). get_or vs v 0) e
    ∙ run-first rule ds (0 ∷ 1 ∷ []) v 0 l
    ∙ go v l
  where
    go : (v : ℕ) → v < 2 → get_or (0 ∷ 1 ∷ []) v 0 ≡ v
    go zero l = refl
    go (suc zero) l = refl
    go (suc (suc v)) l = absurd (omega arith)
