-- Commands from all but their last command and that, and commands without commands in them.
use Rattle.std.specs.Prelude.{List, [], ◌∷◌, map}
use Rattle.expression_lang.specs.CodeExpression.{exp_of}
use Rattle.simpl_lang.specs.declared.fronts.Front as F
use Rattle.simpl_lang.specs.Command.{Simpl, Seq, Cond, Guard, Catch, While}
use Rattle.simpl_lang.specs.CodeCommand.{condition_of, simpl_of}

abbrev pub with_front : F.Front → Simpl → Simpl
with_front (F.TheVariants.Seq first) last = Seq (simpl_of first.value) last
with_front (F.TheVariants.Cond e first) last = Cond (exp_of e.value) (simpl_of first.value) last
with_front (F.TheVariants.Guard c) last = Guard (condition_of c) last
with_front (F.TheVariants.Catch first) last = Catch (simpl_of first.value) last
with_front (F.TheVariants.While cs e) last = While (map condition_of cs.items) (exp_of e.value) last

-- the first front first
abbrev pub with_fronts : List F.Front → Simpl → Simpl
with_fronts [] last = last
with_fronts (x ∷ xs) last = with_front x (with_fronts xs last)

-- a command without commands in it
abbrev pub IsStep : Simpl → Type 0
IsStep (Seq c d) = ⊥
IsStep (Cond e c d) = ⊥
IsStep (Guard a c) = ⊥
IsStep (Catch c d) = ⊥
IsStep (While as' e c) = ⊥
IsStep _ = Unit {0}
