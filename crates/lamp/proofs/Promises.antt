-- What the lamp of a board promises.
use Prim.Native.Nat.{ℕ, ◌+◌, ◌*◌, ◌-◌}
use native.Mathlib.Omega.{arith}
use mathlib.Core.Path.{◌≡◌, refl, sym, ap, ◌∙◌}
use mathlib.Core.List.{List, []}
use mathlib.Core.Logic.{⊎_map}
use lib.ListN.{length, take}
use lib.Seq.{take-append_seam}
use Rattle.fields.proofs.Bounded.{all-agree}
use Rattle.table.specs.Promises.{Accepted}
use Rattle.table.specs.Table.{diagram_in}
use Rattle.netlist.specs.declared.Gate.{Gate}
use Rattle.netlist.specs.Netlist.{Netlist, gate_line, line_count, level_of, holds_of, net_with, file_of}
use Rattle.netlist.proofs.Sound.{Bounds, PairsWired, LampWired}
use Rattle.wiring.proofs.Files.{reads-back, file-determines, file-accepted}
use Rattle.simulation.specs.Run.{values_of}
use Rattle.simulation.proofs.Answers.{driven, driven-bits}
use Rattle.rules.specs.Board.{board_of, table_board}
use Rattle.rules.specs.Lamp.{lamp_of, with_lamp, lamp_board}
use Rattle.rules.proofs.Codes.{code-bits}
use Rattle.rules.proofs.FileBytes.{file-bytes}
use Rattle.rules.proofs.LampCounts.{lamp-gates}
use Rattle.rules.proofs.Models.{code_of}
use Rattle.rules.proofs.Pairs.{pair}
use Rattle.rules.proofs.Promises.{within-formulas, different-netlists}
use Rattle.faults.proofs.Betrayed.{seen}
use Rattle.faults.proofs.HeldLines.{all-holds, levels, holds-in}
use Rattle.faults.proofs.ReadRails.{read-used}
use Rattle.lamp.specs.Promises.{PlainFirst, LampFormulas, LampFilesPass, DifferentLampNetlists, LampRightCode, LampCode, LampNoWrongCode, LampShowsStuckLine}
use Rattle.lamp.proofs.Boards.{taken, some, outputs, some_pairs, wired, pairs, board-code, pair-right, pair_code, free-code, output-at, lamp-at}
use Rattle.lamp.proofs.Depths.{lamp-depth}
use Rattle.lamp.proofs.Extended.{lamp-lines}
use Rattle.lamp.proofs.Laid.{lamp-wired, pair-wired}
use Rattle.lamp.proofs.OneSided.{code_same}
use Rattle.lamp.proofs.Shown.{shows-by, code-at}
use Rattle.lamp.proofs.Stuck.{both-shown}

pub plain-first : PlainFirst
unfolding with_lamp
plain-first table = (refl, refl, take-append_seam (table_board table).gates (lamp_of (table_board table)).0)

pub lamp-formulas : LampFormulas
lamp-formulas table yes! =
    let d = diagram_in table in
    let net = table_board table in
    let (gates, most, deep) = within-formulas table yes! in
    let count : length (lamp_board table).gates ≡ length net.gates + 6 * (d.outputs - 1) =
    rw (outputs table yes!) at (lamp-gates net (some_pairs table yes!)) in
    let few = (taken table yes!).sized.outputs in
    let deeper = rw (outputs table yes!) at (lamp-depth net (some_pairs table yes!) (wired table yes!) (pairs table yes!)) in
    (count, omega arith, omega arith, omega arith, omega arith)

pub lamp-files-pass : LampFilesPass
unfolding with_lamp board_of
lamp-files-pass table yes! =
    let net = table_board table in
    let with = lamp_board table in
    let s = (taken table yes!).sized in
    let m = outputs table yes! in
    let more = lamp-lines net in
    let bounds : Bounds with =
    record {
      least = s.contacts.0;
      most = s.contacts.1;
      gates = (lamp-formulas table yes!).2;
      some = some_pairs table yes!;
      few = omega (arith, s.outputs);
      lamp = omega arith;
    } in
    let shown : PairsWired with = λ j none h.
    let p = pairs table yes! j none h in
    record { on = omega arith; off = omega arith } in
    let lit : LampWired with = λ j none h.
    let z : j ≡ 0 = omega arith in
    rw z (pair-wired net (some_pairs table yes!) (pairs table yes!)) in
    let sound = lamp-wired net (some_pairs table yes!) (pairs table yes!) (wired table yes!) in
    (file-bytes with bounds sound shown lit, file-accepted with bounds sound shown lit, reads-back with)

-- A netlist without its lamp: what is left where the gates of the joins are taken off.
abbrev plain_of : Netlist → Netlist
plain_of net = net_with net.contacts (take (length net.gates - 6 * (length net.pairs - 1)) net.gates) net.pairs []

plain-of : (table : List ℕ) → Accepted table → plain_of (lamp_board table) ≡ table_board table
unfolding with_lamp board_of
plain-of table yes! =
    let net = table_board table in
    let count = lamp-gates net (some_pairs table yes!) in
    let rest : length (lamp_board table).gates - 6 * (length net.pairs - 1) ≡ length net.gates = omega arith in
    ap (λ (gates : List Gate). net_with net.contacts gates net.pairs [])
    (ap (λ (k : ℕ). take k (lamp_board table).gates) rest ∙ take-append_seam net.gates (lamp_of net).0)

pub different-lamp-netlists : DifferentLampNetlists
different-lamp-netlists a b ya yb e =
    different-netlists a b ya yb
    (ap file_of (sym (plain-of a ya) ∙ ap plain_of (file-determines (lamp_board a) (lamp_board b) e) ∙ plain-of b yb))

pub lamp-right-code : LampRightCode
lamp-right-code table yes! x j h =
    let (on, off) = pair-right table yes! x j h in
    shows-by (output-at table yes! _ j h) on off

pub lamp-is-code : LampCode
lamp-is-code table yes! rails holds rails-yes holds-yes =
    let d = diagram_in table in
    let vs = values_of (lamp_board table) rails (holds_of holds) in
    let lines = holds-in (gate_line d.contacts) (line_count (table_board table)) holds holds-yes in
    code-at (lamp-at table yes! vs)
    ∙ board-code table yes! rails (driven d.contacts rails rails-yes) (driven-bits d.contacts rails rails-yes)
    (holds_of holds) (levels (holds_of holds)) lines
    ∙ sym (all-agree d.outputs _ _ (λ j h. code-at (output-at table yes! vs j h)))

pub lamp-no-wrong-code : LampNoWrongCode
lamp-no-wrong-code table yes! b bound holds (ordered, way) x =
    let with = lamp_board table in
    let rails = code_of with x in
    let values = values_of with rails (holds_of holds) in
    let free = free-code table yes! x in
    let lamp = lamp-at table yes! (values_of with rails []) in
    let all = all-holds (λ h. level_of h ≡ b) holds way in
    let same = code_same with rails (code-bits x with.contacts) (holds_of holds) b bound all in (
      code-at lamp ∙ free,
      ⊎_map (λ (p, q). shows-by (lamp-at table yes! values) (p ∙ sym lamp.on) (q ∙ sym lamp.off))
          (λ (p, q). shows-by (lamp-at table yes! values) p q) (same (lamp_of (table_board table)).1 free),
      λ j h.
          let (right, wrong) = pair-right table yes! x j h in
          ⊎_map (λ (p, q). shows-by (output-at table yes! values j h) (p ∙ right) (q ∙ wrong))
          (λ (p, q). shows-by (output-at table yes! values j h) p q) (same (pair (diagram_in table) j) (pair_code table yes! x j h)),
    )

pub lamp-shows-stuck-line : LampShowsStuckLine
lamp-shows-stuck-line table yes! y b low read bound =
    let (a, below, j, h, shows) = seen table yes! y b low read bound in
    let inside = (read-used (diagram_in table) (some table yes!) y low read).1 in
    (a, below, j, h, both-shown table yes! (record { line = y; value = b }) bound inside a j h shows)
