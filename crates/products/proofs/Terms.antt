-- The terms of an entry as they are written, and the lines among them.
use Prim.Native.Nat.{ℕ, ◌+◌, ◌≤◌, ◌<◌}
use native.Mathlib.Omega.{arith}
use mathlib.Core.Path.{◌≡◌, refl, sym, ap, ◌∙◌}
use mathlib.Core.List.{List, [], ◌∷◌, ◌++◌, append-nil}
use lib.ListN.{length, length-append}
use Rattle.rules.specs.declared.Entry.{Entry}
use Rattle.rules.specs.declared.Entry.TheVariants.{Never, Always, Line}
use Rattle.rules.specs.Make.{Make, sequence}
use Rattle.rules.specs.Blocks.{Matrix, entry_at, term, lines_in}
use Rattle.gates.specs.declared.gate.Gates.{Gates}
use Rattle.gates.specs.Inner.Written.{free_line, Written, Grown, RoomFor}
use Rattle.products.specs.Inner.Terms.{terms_of}
use Rattle.rules.proofs.Entries.{lines-few}
use Rattle.gates.proofs.Rooms.{room-turn}
use Rattle.gates.proofs.Writing.{written_none, written-more, written-own}

pub lines-append : (xs ys : List Entry) → lines_in (xs ++ ys) ≡ lines_in xs ++ lines_in ys
lines-append [] ys = refl
lines-append (Never ∷ xs) ys = lines-append xs ys
lines-append (Always ∷ xs) ys = lines-append xs ys
lines-append (Line x ∷ xs) ys = ap (◌∷◌ x) (lines-append xs ys)

-- An entry that is no line adds none.
pub no-line : (ls : List ℕ) (e : Entry) → ((x : ℕ) → e ≡ Line x → ⊥) → ls ≡ ls ++ lines_in (e ∷ [])
no-line ls Never h = sym (append-nil ls)
no-line ls Always h = sym (append-nil ls)
no-line ls (Line x) h = absurd (h x refl)

abbrev term_at : Matrix → Matrix → ℕ → ℕ → ℕ → Make Entry
term_at left right u v w = term (entry_at left u w) (entry_at right w v)

-- What holds after the terms of the first w middle nodes.
pub record Turned (left right : Matrix) (u v w : ℕ) (g h : Gates) (lines : List ℕ) : Type 0 where
  pub few : length lines ≤ w
  pub written : Grown (terms_of w left right u v) g h
  pub found : lines_in (terms_of w left right u v (free_line g)).1 ≡ lines

module _ (left right : Matrix) (u v : ℕ) {g : Gates} where
  pub turned_none : Turned left right u v 0 g g []
  unfolding sequence terms_of
  turned_none = record { few = omega arith; written = written_none (term_at left right u v); found = refl }

  pub turned_more : {w : ℕ} {h k : Gates} {lines later : List ℕ} {e : Entry} → Turned left right u v w g h lines →
      Written (term (entry_at left u w) (entry_at right w v)) h k e → later ≡ lines ++ lines_in (e ∷ []) →
      Turned left right u v (w + 1) g k later
  unfolding terms_of
  turned_more {w = w} {lines = lines} {e = e} t s added =
      let more = written-more (term_at left right u v) t.written s in
      let one = lines-few (e ∷ []) in
      let both = length-append lines (lines_in (e ∷ [])) in
      let size = ap length added in
      let few = t.few in
      record {
        few = omega arith;
        written = written-own more;
        found =
            ap lines_in (sym more.result)
            ∙ lines-append (terms_of w left right u v (free_line g)).1 (e ∷ [])
            ∙ ap (λ (ls : List ℕ). ls ++ lines_in (e ∷ [])) t.found
            ∙ sym added;
      }

module _ {left right : Matrix} {u v w : ℕ} {g h : Gates} {lines : List ℕ} (t : Turned left right u v w g h lines) where
  pub turned-room : (middle : ℕ) → RoomFor (terms_of middle left right u v) g → w < middle →
      RoomFor (term (entry_at left u w) (entry_at right w v)) h
  unfolding terms_of
  turned-room middle room l = room-turn (term_at left right u v) room l t.written
