-- `service::measure` meets its contract: the board's gates are made, and their depth is the board's.
use native.Mathlib.Omega.{arith}
use mathlib.Core.Path.{◌∙◌}
use Rattle.rules.proofs.Bounds.{sized-narrow, gates-most}
use Rattle.synthesis.proofs.Services.{gates-many, sourced, depth-low, measured}
use Rattle.synthesis.proofs.service.measure.Goals as goal

pub depth_of-depth-requires : goal.depth_of-depth-requires
depth_of-depth-requires g c =
    let d = c.args.d.now in
    let sized = c.requires.0 in
    let bytes = c.bytes.ensures ∙ c.put_board.ensures.gates_after.made.bytes in
    let few = gates-most d sized.contacts.0 sized.contacts.1 (sized-narrow d sized) in
    let many = gates-many d sized bytes in
    record { n_bound = (sized.contacts.1, omega arith); sources_below = sourced d sized bytes }

pub overflow_cast-result-4 : goal.overflow_cast-result-4
overflow_cast-result-4 g c =
    let bytes = c.bytes.ensures ∙ c.put_board.ensures.gates_after.made.bytes in
    omega (arith, depth-low c.args.d.now c.requires.0 bytes c.depth_of-depth.ensures)

pub returns : goal.returns
returns g c =
    let made = c.put_board.ensures.gates_after.made in
    let bytes = c.bytes.ensures ∙ made.bytes in
    measured c.args.d.now c.requires.0 bytes c.depth_of-depth.ensures made.count
