-- The last part of a command is smaller than the command.
use Rattle.std.proofs.Common.{◌≡◌, ◌<◌, subst, sym, arith}
use Rattle.simpl_lang.specs.declared.command.Simpl as S
use Rattle.simpl_lang.specs.declared.command.Simpl.{size-Simpl}
use Rattle.simpl_lang.specs.declared.command.Simpl.TheBlock.{the_depth}
use denote.Hole.Rolled.{depth}
use denote.Hole.Carrier.{fold}

after_first : (p : _) (a : S.Simpl) (q : _) (b : S.Simpl) → size-Simpl b < size-Simpl (S.Seq' p a q b)
unfolding the_depth depth fold
after_first p a q b = omega arith

pub last_of_seq : (c : S.Simpl) (a b : _) → c ≡ S.Seq a b → size-Simpl b.value < size-Simpl c
last_of_seq c a b e = subst (λ d. size-Simpl b.value < size-Simpl d) (sym e) (after_first _ a.value _ b.value)

other_branch : (x : _) (p : _) (a : S.Simpl) (q : _) (b : S.Simpl) → size-Simpl b < size-Simpl (S.Cond' x p a q b)
unfolding the_depth depth fold
other_branch x p a q b = omega arith

pub last_of_cond : (c : S.Simpl) (x a b : _) → c ≡ S.Cond x a b → size-Simpl b.value < size-Simpl c
last_of_cond c x a b e = subst (λ d. size-Simpl b.value < size-Simpl d) (sym e) (other_branch x _ a.value _ b.value)

guarded : (g : _) (p : _) (b : S.Simpl) → size-Simpl b < size-Simpl (S.Guard' g p b)
unfolding the_depth depth fold
guarded g p b = omega arith

pub last_of_guard : (c : S.Simpl) (g b : _) → c ≡ S.Guard g b → size-Simpl b.value < size-Simpl c
last_of_guard c g b e = subst (λ d. size-Simpl b.value < size-Simpl d) (sym e) (guarded g _ b.value)
