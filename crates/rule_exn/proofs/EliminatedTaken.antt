-- What takes exceptions out is accepted, flat and well-sorted.
use Rattle.std.proofs.Common.{◌≡◌, Bool, true, false, ◌&&◌, List, refl}
use Rattle.std.proofs.lemmas.Bool.{and_from}
use Rattle.expression_lang.specs.Expression.{Exp}
use Rattle.simpl_lang.specs.Command.{Condition, Simpl, Skip, Seq, Cond, Guard, Catch, While}
use Rattle.simpl_lang.specs.Form.{is_flat}
use Rattle.rule_exn.specs.Quiet.{quiet}
use Rattle.rule_exn.specs.Table.{Takes}
use Rattle.rule_exn.specs.Eliminated.{Eliminated, exceptions_eliminated, in_sequence, caught, repeated}

abbrev Taken : Simpl → Eliminated → Type 0
Taken a r = Takes r.tree a r.right

seq_taken : (a b : Simpl) (r s : Eliminated) → Taken a r → Taken b s → (q : Bool) → quiet a ≡ q → Taken (Seq a b) (in_sequence q r s)
seq_taken a b r s h k true e = (e, (h, (k, tt)))
seq_taken a b r s h k false e = ((refl, refl), (h, (k, tt)))

catch_taken : (a b : Simpl) (r s : Eliminated) → Taken a r → Taken b s → (q : Bool) → quiet a ≡ q → Taken (Catch a b) (caught q b r s)
catch_taken a b r s h k true e = (e, (h, tt))
catch_taken a Skip r s h k false e = (refl, (h, tt))
catch_taken a b r s h k false e = ((refl, refl, refl), (h, (k, tt)))

while_taken : (gs : List Condition) (t : Exp) (a : Simpl) (r : Eliminated) → Taken a r → (q : Bool) → quiet a ≡ q → Taken (While gs t a) (repeated q gs t r)
while_taken gs t a r h true e = ((e, refl, refl), (h, tt))
while_taken gs t a r h false e = ((refl, refl), (h, tt))

pub eliminated_taken : (a : Simpl) → Taken a (exceptions_eliminated a)
eliminated_taken (Seq a b) = seq_taken a b _ _ (eliminated_taken a) (eliminated_taken b) (quiet a) refl
eliminated_taken (Cond e a b) = (refl, (eliminated_taken a, (eliminated_taken b, tt)))
eliminated_taken (Guard g a) = (refl, (eliminated_taken a, tt))
eliminated_taken (Catch a b) = catch_taken a b _ _ (eliminated_taken a) (eliminated_taken b) (quiet a) refl
eliminated_taken (While gs e a) = while_taken gs e a _ (eliminated_taken a) (quiet a) refl
eliminated_taken _ = (refl, tt)

abbrev Flat : Eliminated → Type 0
Flat r = is_flat r.right ≡ true

seq_flat : (q : Bool) (r s : Eliminated) → Flat r → Flat s → Flat (in_sequence q r s)
seq_flat true r s h k = and_from (is_flat r.right) (is_flat s.right) h k
seq_flat false r s h k = and_from (is_flat r.right) (is_flat s.right) h k

catch_flat : (q : Bool) (b : Simpl) (r s : Eliminated) → Flat r → Flat s → Flat (caught q b r s)
catch_flat true b r s h k = h
catch_flat false Skip r s h k = and_from (is_flat r.right) true h refl
catch_flat false b r s h k = and_from (is_flat r.right) (is_flat s.right && true) h (and_from (is_flat s.right) true k refl)

while_flat : (q : Bool) (gs : List Condition) (t : Exp) (r : Eliminated) → Flat r → Flat (repeated q gs t r)
while_flat true gs t r h = h
while_flat false gs t r h = h

pub eliminated_flat : (a : Simpl) → Flat (exceptions_eliminated a)
eliminated_flat (Seq a b) = seq_flat (quiet a) _ _ (eliminated_flat a) (eliminated_flat b)
eliminated_flat (Cond e a b) = and_from (is_flat (exceptions_eliminated a).right) (is_flat (exceptions_eliminated b).right) (eliminated_flat a) (eliminated_flat b)
eliminated_flat (Guard g a) = eliminated_flat a
eliminated_flat (Catch a b) = catch_flat (quiet a) b _ _ (eliminated_flat a) (eliminated_flat b)
eliminated_flat (While gs e a) = while_flat (quiet a) gs e _ (eliminated_flat a)
eliminated_flat _ = refl
