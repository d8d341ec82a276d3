-- What a fault tells is true.
use Rattle.std.specs.Prelude.{Option, Some, None, is_none}
use mathlib.Core.Path.{◌≡◌, refl, sym, ap, ◌∙◌}
use mathlib.Core.Bool.{false, true≢false}
use mathlib.Core.List.{List}
use Prim.Native.Nat.{ℕ}
use native.Mathlib.Omega.{arith}
use lib.ListN.{length, replicate}
use borrow.Author.Tests.{eq-eqb}
use Rattle.lists.specs.Bytes.{byte}
use Rattle.numbers.specs.Numbers.{bytes_of, two}
use Rattle.disk_geometry.specs.declared.Geometry.{Geometry}
use Rattle.disk_geometry.proofs.GeometryLaws.{bounds}
use Rattle.disk_faults.specs.declared.Fault.{Fault}
use Rattle.disk_faults.specs.Faults.{first_broken, rule_number}
use Rattle.disk_faults.proofs.Agreement.{agree}
use Rattle.disk_faults.proofs.FirstLaws.{numbered, is_first}
use Rattle.call_answers.specs.declared.Answer.{Answer}
use Rattle.call_answers.specs.declared.Answer.TheVariants.{Done, Ready, BadSlot, Refused, Several}
use Rattle.filecalls.specs.LogIn.{log_in}
use Rattle.seam_looks.specs.Fault.{fault_length, fault_bytes, fault_for, fault_at_seam}
use Rattle.churawel.specs.Explains.{NamesSlot, NamesRule, Explains}
use Rattle.seam_looks.proofs.FaultLaws.{Bad, bad_slot_lem}

-- in 32 bytes the call leaves the fault of log-in's answer
left : (g : Geometry) (v lent : List ℕ) → length lent ≡ fault_length → (fault_at_seam g v lent).fault ≡ fault_for g v (log_in g v).answer
unfolding fault_at_seam
left g v lent h = rw (eq-eqb (length lent) fault_length h)

there : (o : Option Fault) → is_none o ≡ false → (f : Fault) × (o ≡ Some f)
there None e = absurd (true≢false e)
there (Some f) e = (f, refl)

module _ (g : Geometry) (v : List ℕ) (s : ℕ) (known : Bad g v s) where
  -- a bad slot breaks a rule
  found : (f : Fault) × (first_broken g v s ≡ Some f)
  found = there (first_broken g v s) (agree g v s known.inside ∙ known.bad)

  the_rule : byte (fault_bytes g v s) 0 ≡ rule_number found.0.rule
  unfolding fault_bytes bytes_of
  the_rule = rw found.1

  the_slot : two (fault_bytes g v s) 4 ≡ s
  unfolding fault_bytes bytes_of
  the_slot = rw found.1 (omega (arith, known.inside, (bounds g known.volume.0).slots_high))

  is_broken : rule_number found.0.rule ≡ 0 → ⊥
  is_broken e = let k = numbered found.0.rule in absurd (omega arith)

  names_slot : NamesSlot (fault_bytes g v s) s
  names_slot = (λ z. is_broken (sym the_rule ∙ z), the_slot)

  names_rule : NamesRule g v s (fault_bytes g v s)
  names_rule =
      let first = is_first g v s in
      record {
        rule = found.0.rule;
        number = the_rule;
        broken = first.broken found.0 found.1;
        earlier = first.earlier found.0 found.1;
      }

-- zeros name no slot
no_slot : (s : ℕ) → NamesSlot (replicate fault_length 0) s → ⊥
no_slot s n = n.0 refl

only : (g : Geometry) (v : List ℕ) (s : ℕ) (a : Answer) → (log_in g v).answer ≡ a → NamesSlot (fault_for g v a) s → (log_in g v).answer ≡ BadSlot s
only g v s (BadSlot t) e n = e ∙ ap BadSlot (sym (the_slot g v t (bad_slot_lem g v t e)) ∙ n.1)
only g v s (Done code) e n = absurd (no_slot s n)
only g v s (Ready free) e n = absurd (no_slot s n)
only g v s (Refused why) e n = absurd (no_slot s n)
only g v s (Several done why) e n = absurd (no_slot s n)

pub explains : Explains
explains g v lent h s =
    let f = left g v lent h in
    record {
      slot = λ said. rw (f, said) (names_slot g v s (bad_slot_lem g v s said));
      rule = λ said. rw (f, said) (names_rule g v s (bad_slot_lem g v s said));
      only = λ n. only g v s (log_in g v).answer refl (rw f at n);
    }
