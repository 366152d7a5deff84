-- The sheet determines the netlist once the count of contacts is given, and its length.
use borrow.Author.Tests.{eqb-true, eqb-false}
use native.Mathlib.Omega.{arith}
use Prim.Native.Nat.{ℕ, suc, ◌≤◌}
use mathlib.Core.Path.{◌≡◌, refl, sym, ap, ap₂, ◌∙◌}
use mathlib.Core.Bool.{Bool, true, false, cond}
use mathlib.Core.List.{List, [], ◌∷◌, ◌++◌, append_assoc, append-nil}
use lib.Dec.{leb, eqb}
use lib.ListN.{length, drop}
use lib.Seq.{drop-append_seam}
use Rattle.fields.proofs.Every.{Every, every-by, every_append}
use Rattle.netlist.specs.declared.Gate.{Gate}
use Rattle.netlist.specs.declared.Pair.{Pair}
use Rattle.netlist.specs.Netlist.{Netlist, gate_line, line_count, net_with, file_of}
use Rattle.netlist.proofs.Files.{no-gate, no-pair}
use Rattle.netlist.proofs.Sound.{Bounds, Wired, PairsIn, PairsWired, LampWired}
use Rattle.wiring.specs.Questions.{netlist_in, netlist_refusal}
use Rattle.wiring.proofs.Accepted.{accepted}
use Rattle.wiring.proofs.Promises.{netlist-writes-back}
use Rattle.sheet.specs.declared.row.Kind.{Kind}
use Rattle.sheet.specs.declared.row.Kind.TheVariants.{And, Or, Out, Lamp}
use Rattle.sheet.specs.declared.row.Row.{Row}
use Rattle.sheet.specs.Sheet.{heading, kind_of, gate_row, pair_row, output_row, lamp_row, numbered_rows, rows_of, rows_from, sheet_of}
use Rattle.sheet.specs.Promises.{SheetDetermines, SheetLength}
use Rattle.sheet.proofs.Pages.{gate_rows, output_rows, lamp_rows, sheet-end}
use Rattle.sheet.proofs.Readback.{SmallRow, every-numbered, rows_same}

-- Gates, outputs and the lamp read back from rows: the kinds tell them apart, and ANDs from ORs.
abbrev kind_in : Kind → ℕ
kind_in And = 0
kind_in Or = 1
kind_in Out = 2
kind_in Lamp = 3

kind-back : (k : ℕ) → k ≤ 1 → kind_in (kind_of k) ≡ k
kind-back k h = go (eqb k 0) refl
  where
    go : (b : Bool) → eqb k 0 ≡ b → kind_in (cond b And Or) ≡ k
    go true e = sym (eqb-true k 0 e)
    go false e = let z = eqb-false k 0 e in omega arith

abbrev gate_in : Row → Gate
gate_in r = record { kind = kind_in r.kind; left = r.first; right = r.second }

abbrev pair_in : Row → Pair
pair_in r = record { on = r.first; off = r.second }

gate-back : (line : ℕ) (g : Gate) → g.kind ≤ 1 → gate_in (gate_row line g) ≡ g
gate-back line g h = ap (λ (k : ℕ). record { kind = k; left = g.left; right = g.right }) (kind-back g.kind h)

abbrev is_gate : Kind → Bool
is_gate k = leb (kind_in k) 1

abbrev is_out : Kind → Bool
is_out k = eqb (kind_in k) 2

abbrev is_lamp : Kind → Bool
is_lamp k = eqb (kind_in k) 3

-- What holds of AND and of OR holds of a gate's kind.
gates-are : (P : Kind → Bool) (b : Bool) → P And ≡ b → P Or ≡ b → (k : ℕ) → P (kind_of k) ≡ b
gates-are P b p q k = go (eqb k 0)
  where
    go : (t : Bool) → P (cond t And Or) ≡ b
    go true = p
    go false = q

-- What the rows of the kinds that pass say.
module _ {A : Type 0} (passes : Kind → Bool) (from : Row → A) where
  abbrev picked : List Row → List A
  picked [] = []
  picked (r ∷ rs) = cond (passes r.kind) (from r ∷ picked rs) (picked rs)

  all-picked : (row : ℕ → A → Row) → ((k : ℕ) (x : A) → passes (row k x).kind ≡ true) → (k : ℕ) (xs : List A) (rs : List Row) →
      Every (λ (x : A). (k : ℕ) → from (row k x) ≡ x) xs → picked (numbered_rows row k xs ++ rs) ≡ xs ++ picked rs
  unfolding numbered_rows
  all-picked row h k [] rs e = refl
  all-picked row h k (x ∷ xs) rs e = rw (h k x) (ap₂ ◌∷◌ (e.0 k) (all-picked row h (suc k) xs rs e.1))

  none-picked : {B : Type 0} (row : ℕ → B → Row) → ((k : ℕ) (x : B) → passes (row k x).kind ≡ false) → (k : ℕ) (xs : List B)
      (rs : List Row) → picked (numbered_rows row k xs ++ rs) ≡ picked rs
  unfolding numbered_rows
  none-picked row h k [] rs = refl
  none-picked row h k (x ∷ xs) rs = rw (h k x) (none-picked row h (suc k) xs rs)

-- A netlist from its contacts and its rows.
abbrev net_in : ℕ → List Row → Netlist
net_in n rs = net_with n (picked is_gate gate_in rs) (picked is_out pair_in rs) (picked is_lamp pair_in rs)

module _ (net : Netlist) where
  abbrev line : ℕ
  line = gate_line net.contacts

  abbrev gates : List Row
  gates = gate_rows net

  abbrev outputs : List Row
  outputs = output_rows net

  abbrev lamp : List Row
  lamp = lamp_rows net

  parted : rows_of net ≡ gates ++ (outputs ++ (lamp ++ []))
  parted = append_assoc gates outputs lamp ∙ ap (λ (rs : List Row). gates ++ (outputs ++ rs)) (sym (append-nil lamp))

  gates-back : Wired net → picked is_gate gate_in (rows_of net) ≡ net.gates
  gates-back w =
      ap (picked is_gate gate_in) parted
      ∙ all-picked is_gate gate_in gate_row (λ k g. gates-are is_gate true refl refl g.kind) line net.gates (outputs ++ (lamp ++ []))
      (every-by _ net.gates no-gate (λ i h k. gate-back k _ (w i no-gate h).kind))
      ∙ ap (◌++◌ net.gates)
      (none-picked is_gate gate_in output_row (λ k p. refl) 0 net.pairs (lamp ++ [])
      ∙ none-picked is_gate gate_in lamp_row (λ k p. refl) 0 net.lamp [])
      ∙ append-nil net.gates

  outputs-back : picked is_out pair_in (rows_of net) ≡ net.pairs
  outputs-back =
      ap (picked is_out pair_in) parted
      ∙ none-picked is_out pair_in gate_row (λ k g. gates-are is_out false refl refl g.kind) line net.gates (outputs ++ (lamp ++ []))
      ∙ all-picked is_out pair_in output_row (λ k p. refl) 0 net.pairs (lamp ++ []) (every-by _ net.pairs no-pair (λ i h k. refl))
      ∙ ap (◌++◌ net.pairs) (none-picked is_out pair_in lamp_row (λ k p. refl) 0 net.lamp [])
      ∙ append-nil net.pairs

  lamp-back : picked is_lamp pair_in (rows_of net) ≡ net.lamp
  lamp-back =
      ap (picked is_lamp pair_in) parted
      ∙ none-picked is_lamp pair_in gate_row (λ k g. gates-are is_lamp false refl refl g.kind) line net.gates (outputs ++ (lamp ++ []))
      ∙ none-picked is_lamp pair_in output_row (λ k p. refl) 0 net.pairs (lamp ++ [])
      ∙ all-picked is_lamp pair_in lamp_row (λ k p. refl) 0 net.lamp [] (every-by _ net.lamp no-pair (λ i h k. refl))
      ∙ append-nil net.lamp

  net-back : Wired net → net_in net.contacts (rows_of net) ≡ net
  net-back w = λ i. net_with net.contacts (gates-back w i) (outputs-back i) (lamp-back i)

-- Every number on the sheet of an accepted netlist has at most five digits: in pairs' rows, and in all.
small-pairs : (kind : Kind) (lines : ℕ) (ps : List Pair) → lines ≤ 10628 → length ps ≤ 8 → PairsIn lines ps →
    Every SmallRow (numbered_rows (pair_row kind) 0 ps)
small-pairs kind lines ps most few p =
    every-numbered SmallRow (pair_row kind) 0 ps no-pair
    (λ j h. let in! = p j no-pair h in record { number = omega arith; first = omega (arith, in!.on); second = omega (arith, in!.off) })

small-rows : (net : Netlist) → Bounds net → Wired net → PairsWired net → LampWired net → Every SmallRow (rows_of net)
small-rows net b w p l =
    let most = b.most in
    let many = b.gates in
    let eight = b.few in
    let one = b.lamp in
    let lines : line_count net ≤ 10628 = omega arith in
    every_append SmallRow (gate_rows net ++ output_rows net) (lamp_rows net)
    (every_append SmallRow (gate_rows net) (output_rows net)
    (every-numbered SmallRow gate_row (gate_line net.contacts) net.gates no-gate
    (λ i h.
    let on = w i no-gate h in
    record { number = omega arith; first = omega (arith, on.left); second = omega (arith, on.right) }))
    (small-pairs Out (line_count net) net.pairs lines eight p))
    (small-pairs Lamp (line_count net) net.lamp lines (omega arith) l)

-- The sheet determines the netlist.
sheet-netlist : (a b : List ℕ) → netlist_refusal a ≡ 0 → netlist_refusal b ≡ 0 →
    (netlist_in a).contacts ≡ (netlist_in b).contacts → sheet_of (netlist_in a) ≡ sheet_of (netlist_in b) → netlist_in a ≡ netlist_in b
unfolding sheet_of
sheet-netlist a b p q n e =
    let l = accepted a p in
    let r = accepted b q in
    let x = rows_from 0 (rows_of (netlist_in a)) in
    let y = rows_from 0 (rows_of (netlist_in b)) in
    let texts : x ≡ y = sym (drop-append_seam heading x) ∙ ap (drop (length heading)) e ∙ drop-append_seam heading y in
    let rows =
    rows_same 0 (rows_of (netlist_in a)) (rows_of (netlist_in b)) (small-rows (netlist_in a) l.bounds l.wired l.shown l.lit)
    (small-rows (netlist_in b) r.bounds r.wired r.shown r.lit) texts in
    sym (net-back (netlist_in a) l.wired) ∙ ap₂ net_in n rows ∙ net-back (netlist_in b) r.wired

pub sheet-determines : SheetDetermines
sheet-determines a b c d p q n e =
    sym (netlist-writes-back a c p) ∙ ap file_of (sheet-netlist a b p q n e) ∙ netlist-writes-back b d q

pub sheet-length : SheetLength
sheet-length file p =
    let net = netlist_in file in
    let b = (accepted file p).bounds in
    let e = sheet-end net in
    let g = b.gates in
    let some = b.some in
    let few = b.few in
    let one = b.lamp in
    (omega arith, omega arith)
