-- Code that writes gates one after another does what the definitions make: the laws of `Written`.
use Prim.Native.Nat.{ℕ, ◌+◌, ◌*◌}
use native.Mathlib.Nat.{zero-add}
use native.Mathlib.Numerals.{add-one}
use native.Mathlib.Omega.{arith}
use mathlib.Core.Path.{◌≡◌, refl, sym, ap, ◌∙◌}
use mathlib.Core.List.{List, [], ◌∷◌, ◌++◌, flat_map}
use lib.ListN.{length, length-append, set}
use lib.Seq.{sets, length-sets}
use Rattle.fields.proofs.Parts.{flat_append}
use Rattle.files.proofs.WrittenLemmas.{sets_more}
use Rattle.netlist.specs.Netlist.{gate_bytes}
use Rattle.netlist.proofs.Files.{length-gate-bytes}
use Rattle.rules.specs.Make.{Make, return, ◌>>=◌, sequence}
use Rattle.gates.specs.declared.gate.Gates.{Gates}
use Rattle.gates.specs.Inner.Written.{free_line, Written, Grown}
use Rattle.gates.proofs.Binding.{sequence-last}

module _ {A : Type 0} where
  -- One store and two runs of two.
  pub sets-five : (l : List A) (i : ℕ) (a b c d e : A) →
      sets (sets (set l i a) (i + 1) (b ∷ c ∷ [])) (i + 3) (d ∷ e ∷ []) ≡ sets l i (a ∷ b ∷ c ∷ d ∷ e ∷ [])
  sets-five l i a b c d e =
      ap (λ (m : List A). sets m (i + 3) (d ∷ e ∷ [])) (sets_more l i (i + 1) (a ∷ []) (b ∷ c ∷ []) refl)
      ∙ sets_more l i (i + 3) (a ∷ b ∷ c ∷ []) (d ∷ e ∷ []) refl

  pub written-return : {g : Gates} (a : A) → Written (return a) g g a
  unfolding flat_map
  written-return a = record { same_buffer = refl; same_first = refl; bytes = refl; count = omega arith; result = refl }

  -- What is written is written as it is, whatever its result is called.
  pub written-own : {m : Make A} {g h : Gates} {a : A} → Written m g h a → Grown m g h
  written-own w =
      record { same_buffer = w.same_buffer; same_first = w.same_first; bytes = w.bytes; count = w.count; result = refl }

  pub written-length : {m : Make A} {g h : Gates} {a : A} → Written m g h a → length h.out.now ≡ length g.out.now
  written-length {m} {g} w =
      ap length w.bytes ∙ length-sets g.out.now (5 * g.made) (flat_map gate_bytes (m (free_line g)).0)

module _ {A B : Type 0} {m : Make A} {g h k : Gates} {a : A} where
  pub written-bind : (f : A → Make B) {b : B} → Written m g h a → Written (f a) h k b → Written (m >>= f) g k b
  unfolding ◌>>=◌
  written-bind f {b} w s =
      let r = m (free_line g) in
      let place : free_line h ≡ free_line g + length r.0 = omega (arith, w.count, w.same_first) in
      let t : Written (f r.1) h k b = rw w.result at s in
      let bytes = rw (place, w.bytes) at t.bytes in
      let count = rw place at t.count in
      let gs = (f r.1 (free_line g + length r.0)).0 in
      record {
        same_buffer = s.same_buffer ∙ w.same_buffer;
        same_first = s.same_first ∙ w.same_first;
        bytes =
            bytes
            ∙ sets_more g.out.now (5 * g.made) (5 * h.made) (flat_map gate_bytes r.0) (flat_map gate_bytes gs)
            (omega (arith, w.count, length-gate-bytes r.0))
            ∙ ap (sets g.out.now (5 * g.made)) (sym (flat_append gate_bytes r.0 gs));
        count = omega (arith, count, w.count, length-append r.0 gs);
        result = rw place at t.result;
      }

-- A loop makes a sequence: nothing at first, then one place more at each turn.
module _ {A : Type 0} (f : ℕ → Make A) {g : Gates} where
  pub written_none : Grown (sequence f 0 0) g g
  unfolding sequence
  written_none = written-return []

  pub written-more : {i : ℕ} {h k : Gates} {a : A} → Grown (sequence f i 0) g h → Written (f i) h k a →
      Written (sequence f (i + 1) 0) g k ((sequence f i 0 (free_line g)).1 ++ (a ∷ []))
  written-more {i = i} {a = a} w s =
      rw (add-one i, sequence-last f i 0, zero-add i)
      (written-bind (λ made. f i >>= λ a. return (made ++ (a ∷ []))) w
      (written-bind (λ a. return ((sequence f i 0 (free_line g)).1 ++ (a ∷ []))) s (written-return _)))
