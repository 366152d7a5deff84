-- A board with its lamp as it is written: the lamp's gates behind the others, and its pair; and the file of what is written.
use Prim.Native.Nat.{ℕ, ◌+◌, ◌*◌, ◌/◌, ◌%◌, ◌≤◌}
use native.Mathlib.Omega.{arith}
use mathlib.Core.Path.{◌≡◌, refl, sym, ap, ◌∙◌}
use mathlib.Core.List.{List, [], ◌∷◌, ◌++◌, flat_map}
use lib.ListN.{length, length-append, take, drop}
use lib.Seq.{sets, sets-eq, length-take-le, take_at}
use Rattle.fields.proofs.Parts.{flat_append}
use Rattle.diagram.specs.declared.Diagram.{Diagram}
use Rattle.diagram.specs.Questions.{Sized}
use Rattle.files.proofs.WrittenLemmas.{onward}
use Rattle.netlist.specs.declared.Pair.{Pair}
use Rattle.netlist.specs.Netlist.{Netlist, line_count, pairs_of, gate_bytes, pair_bytes}
use Rattle.netlist.proofs.Files.{length-gate-bytes, length-pair-bytes, pairs-back}
use Rattle.rules.specs.Make.{Make}
use Rattle.rules.specs.Blocks.{cut}
use Rattle.rules.specs.Board.{board_of}
use Rattle.rules.specs.Lamp.{join_tree, lamp_of, with_lamp}
use Rattle.rules.proofs.Bounds.{sized-narrow, gates-most}
use Rattle.rules.proofs.LampCounts.{lamp-gates}
use Rattle.rules.proofs.Pairs.{pairs-length}
use Rattle.gates.specs.declared.gate.Gates.{Gates}
use Rattle.gates.specs.Inner.Written.{free_line, Written, RoomFor}
use Rattle.gates.proofs.Writing.{written-length}
use Rattle.synthesis.specs.Inner.Writers.{HasMade, BoardMade}

-- The tree of the pairs of some bytes.
abbrev pub tree_of : List ℕ → Make Pair
tree_of pairs = join_tree (cut (length (pairs_of pairs))) (pairs_of pairs)

take-sets : (l vs : List ℕ) (i : ℕ) → i + length vs ≤ length l → take (i + length vs) (sets l i vs) ≡ take i l ++ vs
take-sets l vs i h =
    ap (take (i + length vs)) (sets-eq vs l i h)
    ∙ take_at (take i l ++ vs) (drop (i + length vs) l) (i + length vs)
    (length-append (take i l) vs ∙ ap (λ (k : ℕ). k + length vs) (length-take-le i l (omega arith)))

lamp-length : (net : Netlist) → length (with_lamp net).gates ≡ length net.gates + length (lamp_of net).0
unfolding with_lamp
lamp-length net = length-append net.gates (lamp_of net).0

-- Of the pairs of a board whose gates are made, the tree is the lamp.
module _ (d : Diagram) (sized : Sized d) {pairs : List ℕ} (bytes : pairs ≡ flat_map pair_bytes (board_of d).pairs) where
  pub some-pair : 4 ≤ length pairs
  some-pair =
      let l = length-pair-bytes (board_of d).pairs in
      let m = pairs-length d in
      rw bytes (omega (arith, sized.outputs))

  module _ {g : Gates} (b : BoardMade d g) where
    tree-is : tree_of pairs (free_line g) ≡ lamp_of (board_of d)
    unfolding lamp_of board_of
    tree-is =
        let all : pairs_of pairs ≡ (board_of d).pairs = ap pairs_of bytes ∙ pairs-back (board_of d).pairs in
        let line : free_line g ≡ line_count (board_of d) = omega (arith, b.first, b.made.count) in
        λ i. join_tree (cut (length (all i))) (all i) (line i)

    pub lamp-room : RoomFor (tree_of pairs) g
    lamp-room =
        let few = gates-most d sized.contacts.0 sized.contacts.1 (sized-narrow d sized) in
        let m = pairs-length d in
        let six = lamp-gates (board_of d) (omega (arith, sized.outputs)) in
        let all = lamp-length (board_of d) in
        rw tree-is
        (record { lines = omega (arith, sized.contacts, sized.outputs, b.first, b.made.count); bytes = omega (arith, b.room, b.made.count) })

    pub lamp-written : {h : Gates} {p : Pair} → Written (tree_of pairs) g h p →
        HasMade (with_lamp (board_of d)).gates h × (p ≡ (lamp_of (board_of d)).1)
    unfolding with_lamp
    lamp-written {h} w =
        let gs = (board_of d).gates in
        let hs = (lamp_of (board_of d)).0 in
        let count = rw tree-is at w.count in
        let out = rw tree-is at w.bytes in
        let long = length-gate-bytes hs in
        let all = lamp-length (board_of d) in
        let kept = written-length w in
        let made : 5 * h.made ≡ 5 * g.made + length (flat_map gate_bytes hs) = omega arith in (
          record {
            count = omega (arith, b.made.count);
            fits = omega (arith, b.room, b.made.count);
            bytes =
                rw (made, out)
                (take-sets g.out.now (flat_map gate_bytes hs) (5 * g.made) (omega (arith, b.room, b.made.count))
                ∙ ap (λ (l : List ℕ). l ++ flat_map gate_bytes hs) b.made.bytes
                ∙ sym (flat_append gate_bytes gs hs));
          },
          rw tree-is at w.result,
        )

-- The four bytes of a pair.
pub pair-written : (p : Pair) (start : List ℕ) {between after : List ℕ} {q : Pair} → q ≡ p →
    between ≡ sets start 0 (q.on / 256 ∷ q.on % 256 ∷ []) → after ≡ sets between 2 (q.off / 256 ∷ q.off % 256 ∷ []) →
    after ≡ sets start 0 (pair_bytes p)
pair-written p start {q = q} e f g =
    onward start 0 (q.on / 256 ∷ q.on % 256 ∷ []) (q.off / 256 ∷ q.off % 256 ∷ []) f g refl
    ∙ ap (λ (r : Pair). sets start 0 (pair_bytes r)) e
