-- `pattern_of` meets its contract. The loop's invariant: the inputs fit the rule by the contacts passed.
use Prim.Native.Nat.{◌-◌}
use Rattle.cubes.specs.Inner.Cubes.{Low}
use Rattle.cubes.proofs.pattern_of.Given as goal

abbrev pub invariant-loop-contact : goal.invariant-loop-contact
invariant-loop-contact l = Low l.n l.fixed (l.contact - l.fixed) l.rule l.pattern
