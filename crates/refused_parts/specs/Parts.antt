-- What a step takes is a command or a program, and a node of its tree of rules is about a part of that.
use Rattle.std.specs.Prelude.{◌≡◌, ℕ, [], Option, Some, None}
use Rattle.simpl_lang.specs.Command.{Simpl, SimplFn, SimplUnit}
use Rattle.expression_lang.specs.Signature.{Signature, names_of, kinds_of}
use Rattle.expression_lang.specs.Sort.{sort_of_kind}
use Rattle.monad_lang.specs.Program.{Mon}
use Rattle.monad_lang.specs.Sorted.{setting_signed}
use Rattle.rule_exn.specs.Rule.{◌to◌}
use Rattle.rule_exn.specs.Table as Exceptions
use Rattle.rule_local.specs.Rule.{whole}
use Rattle.rule_local.specs.Table as Locals
use Rattle.rule_local.specs.Units.{context_of, outputs_of}
use Rattle.rule_heap.specs.Rule as H
use Rattle.rule_heap.specs.Table as Heaps
use Rattle.rule_word.specs.Rule as W
use Rattle.rule_word.specs.Table as Words
use Rattle.rule_word.specs.Scopes.{with_kinds, result_as_list}
use Rattle.rule_eq.specs.Rule as Q
use Rattle.rule_eq.specs.Table as Equality
use Rattle.rule_eq.specs.Table.{point}
use Rattle.acceptance.specs.Certificate.{Step, Steps, before_words}
use Rattle.acceptance.specs.Accepted.{word_context}
use Rattle.acceptance.specs.Verdict as V
use Rattle.acceptance.specs.Verdict.{Place}
use Rattle.refused_parts.specs.Lefts.{exception_left, local_left, heap_left, word_left, equal_left}
use Rattle.refused_parts.specs.About.{IsAbout}

pub data Part : Type 0 where
  Command : Simpl → Part
  Program : Mon → Part

-- A node of a step of a function is about this part of what the step takes. What is asked of its calls is about its body.
module _ (u : SimplUnit) (f : SimplFn) (s : Signature) (c : Steps) where
  abbrev pub IsOfHeaps : Option (Step Mon H.Rule) → ℕ → Mon → Type 0
  IsOfHeaps None n q = q ≡ c.local.program
  IsOfHeaps (Some step) n q =
      let left = c.local.program in
      IsAbout (Heaps.table u.layout) heap_left step.tree (H.OfProgram [] left step.program) left n q

  abbrev pub IsPartOf : V.Phase → ℕ → Part → Type 0
  IsPartOf V.Level n (Command q) = q ≡ f.body
  IsPartOf V.Exception n (Command q) =
      IsAbout Exceptions.table exception_left c.exception.tree (f.body to c.exception.program) f.body n q
  IsPartOf V.Local n (Command q) =
      let left = c.exception.program in
      IsAbout (Locals.table (context_of f s)) local_left c.local.tree (whole left c.local.program (outputs_of s.result)) left n q
  IsPartOf V.Heap n (Program q) = IsOfHeaps c.heap n q
  IsPartOf V.Word n (Program q) =
      let left = before_words c in
      let at : W.Point = record { facts = []; names = with_kinds (names_of s.params) (kinds_of s.params) [] } in
      IsAbout (Words.table (word_context u)) word_left c.word.tree
      (W.program at left c.word.program (result_as_list s.result)) left n q
  IsPartOf V.Equal n (Program q) =
      let left = c.word.program in
      let at = point [] (setting_signed sort_of_kind u.layout u.globals u.signatures s) in
      IsAbout Equality.table equal_left c.equal.tree (Q.does at left c.equal.program) left n q
  IsPartOf _ n q = ⊥

  abbrev pub IsPartAt : Place → Part → Type 0
  IsPartAt place q = IsPartOf place.phase place.node q
