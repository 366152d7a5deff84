-- What a run of a netlist with its lamp shows: the outputs' pairs, then the lamp.
use Prim.Native.Nat.{ℕ, ◌+◌, ◌*◌, ◌<◌}
use native.Mathlib.Omega.{arith}
use mathlib.Core.Path.{◌≡◌, ap₂, ◌∙◌}
use mathlib.Core.Bool.{not}
use mathlib.Core.List.{List, [], ◌∷◌}
use lib.Dec.{eqb}
use lib.ListN.{length, get_or}
use lib.Seq.{get_or-append-add}
use Rattle.netlist.specs.declared.Pair.{Pair}
use Rattle.netlist.specs.Netlist.{Netlist}
use Rattle.simulation.specs.Run.{shown_of, shown_by}
use Rattle.simulation.proofs.Shown.{length-shown}
use Rattle.rules.specs.Lamp.{no_pair, lamp_of, with_lamp}
use Rattle.rules.proofs.Shown.{shows-on, shows-off, output_on, output-off}
use Rattle.faults.specs.Promises.{Shows}
use Rattle.lamp.specs.Promises.{code_at}
use Rattle.lamp.proofs.Joins.{is_code}

-- The values of pair p are shown at place j.
pub record StandsAt (net : Netlist) (vs : List ℕ) (j : ℕ) (p : Pair) : Type 0 where
  pub on : get_or (shown_by net vs) (2 * j) 0 ≡ get_or vs p.on 0
  pub off : get_or (shown_by net vs) (2 * j + 1) 0 ≡ get_or vs p.off 0

module _ (net : Netlist) (vs : List ℕ) where
  pub output-stands : (j : ℕ) → j < length net.pairs → StandsAt (with_lamp net) vs j (get_or net.pairs j no_pair)
  unfolding with_lamp
  output-stands j h = record { on = output_on (with_lamp net) vs no_pair j h; off = output-off (with_lamp net) vs no_pair j h }

  pub lamp-stands : StandsAt (with_lamp net) vs (length net.pairs) (lamp_of net).1
  unfolding with_lamp
  lamp-stands =
      let outputs = shown_of net.pairs vs in
      let lamp = (lamp_of net).1 ∷ [] in
      let count = length-shown vs net.pairs in
      let on : 2 * length net.pairs ≡ length outputs + 0 = omega arith in
      let off : 2 * length net.pairs + 1 ≡ length outputs + 1 = omega arith in
      record {
        on = rw on (get_or-append-add outputs (shown_of lamp vs) 0 0 ∙ shows-on vs no_pair lamp 0 (omega arith));
        off = rw off (get_or-append-add outputs (shown_of lamp vs) 1 0 ∙ shows-off vs no_pair lamp 0 (omega arith));
      }

module _ {net : Netlist} {vs : List ℕ} {j : ℕ} {p : Pair} (s : StandsAt net vs j p) where
  pub shows-by : {a b : ℕ} → get_or vs p.on 0 ≡ a → get_or vs p.off 0 ≡ b → Shows net vs j a b
  shows-by e f = (s.on ∙ e, s.off ∙ f)

  pub code-at : code_at (shown_by net vs) j ≡ is_code (λ y. get_or vs y 0) p
  code-at = ap₂ (λ (u v : ℕ). not (eqb u v)) s.on s.off
