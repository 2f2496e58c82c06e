-- Plans: the commands that they are of, and that what they have of their parts is right.
use Rattle.std.specs.Prelude.{◌≡◌, Bool, ◌||◌, List, map}
use Rattle.c_values.specs.Name.{Name, same_name}
use Rattle.expression_lang.specs.Expression.{Exp}
use Rattle.expression_lang.specs.Mentions as mentions
use Rattle.expression_lang.specs.CodeExpression.{exp_of}
use Rattle.expression_lang.specs.declared.signatures.Binder as B
use Rattle.simpl_lang.specs.Command.{Condition, Simpl, Seq, Cond, Guard, Catch, While}
use Rattle.simpl_lang.specs.CodeCommand.{condition_of, simpl_of}
use Rattle.rule_local.specs.Assigned.{assigns}
use Rattle.rule_local.specs.Table.{conj}
use Rattle.local_lift.specs.Live.{none, through, live}
use Rattle.local_lift.specs.CodeNames.{names}
use Rattle.local_lift.specs.CodeRows.{marks, Matrix}
use Rattle.local_lift.specs.declared.plan.Turns as T
use Rattle.local_lift.specs.declared.plan.Plan as P
use Rattle.local_lift.specs.declared.plan.Fronts as F
use Rattle.local_lift.specs.declared.planning.Planned as D

abbrev mutual
  pub command_of : P.Plan → Simpl
  command_of (P.Alone c) = simpl_of c.now
  command_of (P.Cond' e p a q b) = Cond (exp_of e.now) (command_of a) (command_of b)
  command_of (P.Catch' p a q b) = Catch (command_of a) (command_of b)
  command_of (P.While' gs e p a row ts) = While (map condition_of gs.now) (exp_of e.now) (command_of a)
  command_of (P.Behind' p fs q last) = around fs (command_of last)

  -- what stands before a last part, around it
  pub around : F.Fronts → Simpl → Simpl
  around F.None c = c
  around (F.Seq' p a row q fs) c = around fs (Seq (command_of a) c)
  around (F.Guard' g p fs) c = around fs (Guard (condition_of g.now) c)

-- neither a sequence nor a guard
abbrev pub IsLast : Simpl → Type 0
IsLast (Seq a b) = ⊥
IsLast (Guard g a) = ⊥
IsLast _ = Unit {0}

-- without parts
abbrev pub IsAlone : Simpl → Type 0
IsAlone (Seq a b) = ⊥
IsAlone (Guard g a) = ⊥
IsAlone (Cond e a b) = ⊥
IsAlone (Catch a b) = ⊥
IsAlone (While gs e a) = ⊥
IsAlone _ = Unit {0}

-- the row is of the locals that the command assigns
abbrev pub IsAssigned : List B.Binder → Simpl → List Bool → Type 0
IsAssigned bs a row = row ≡ marks (λ y. assigns y a) bs

-- what a local leads to in turns of a loop with this body
abbrev pub turn_steps : List Name → Simpl → Name → Name → Bool
turn_steps xs a = through xs (λ z. live xs a (same_name z))

-- live before a loop whatever is live after it
abbrev pub turn_own : List Name → List Condition → Exp → Simpl → Name → Bool
turn_own xs gs e a z = (mentions.names z (conj gs) || mentions.names z e) || live xs a none z

pub record IsTurns (bs : List B.Binder) (gs : List Condition) (e : Exp) (a : Simpl) (ts : T.Turns) : Type 0 where
  pub steps : Matrix bs (turn_steps (names bs) a) bs ts.steps.items
  pub own : ts.own.flags.items ≡ marks (turn_own (names bs) gs e a) bs

abbrev mutual
  pub IsRight : List B.Binder → P.Plan → Type 0
  IsRight bs (P.Alone c) = IsAlone (simpl_of c.now)
  IsRight bs (P.Cond' e p a q b) = IsRight bs a × IsRight bs b
  IsRight bs (P.Catch' p a q b) = IsRight bs a × IsRight bs b
  IsRight bs (P.While' gs e p a row ts) = IsRight bs a × IsAssigned bs (command_of a) row.flags.items × IsTurns bs (map condition_of gs.now) (exp_of e.now) (command_of a) ts.value
  IsRight bs (P.Behind' p fs q last) = AreRight bs fs × IsRight bs last

  pub AreRight : List B.Binder → F.Fronts → Type 0
  AreRight bs F.None = Unit {0}
  AreRight bs (F.Seq' p a row q fs) = IsRight bs a × IsAssigned bs (command_of a) row.flags.items × AreRight bs fs
  AreRight bs (F.Guard' g p fs) = AreRight bs fs

pub record IsPlanned (bs : List B.Binder) (d : D.Planned) (c : Simpl) : Type 0 where
  pub same : command_of d.plan.value ≡ c
  pub right : IsRight bs d.plan.value
  pub assigned : IsAssigned bs c d.assigned.flags.items

-- the row is of the locals that a command assigns beside this part of it
pub record AssignedBeside (bs : List B.Binder) (part whole : Simpl) (row : List Bool) : Type 0 where
  pub beside : Name → Bool
  pub marked : row ≡ marks beside bs
  pub all : (y : Name) → (beside y || assigns y part) ≡ assigns y whole
