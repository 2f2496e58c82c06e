-- Units that the rules take to each other are a whole chain, so that the last programs are exact.
use Rattle.std.proofs.Common.{sym, subst, ap, ◌∙◌}
use Rattle.c_values.specs.Name.{Name}
use Rattle.expression_lang.specs.Sort.{Level}
use Rattle.simpl_lang.specs.Command.{SimplUnit}
use Rattle.simpl_lang.specs.Flag.{HasUnusedFlag}
use Rattle.monad_lang.specs.Program.{FinalUnit}
use Rattle.monad_lang.specs.Run.{program_runs}
use Rattle.monad_lang.specs.Sorted.{IsWellFormed}
use Rattle.rule_exn.proofs.UnitsAlike.{units_run_alike}
use Rattle.rule_local.proofs.UnitsKeep.{units_keep_locals}
use Rattle.rule_heap.proofs.UnitsKeep.{units_keep_heaps}
use Rattle.rule_word.specs.Kept.{WordsKept}
use Rattle.rule_word.proofs.UnitsKeep.{units_keep_words}
use Rattle.rule_word.proofs.UnitsFormed.{units_formed}
use Rattle.rule_eq.proofs.UnitsKeep.{units_keep, taken_alike}
use Rattle.c_lang.specs.Typed.{TypedUnit}
use Rattle.generation.specs.SameEnds.{HasEndsOf}
use Rattle.generation.proofs.ExactUnits.{generated_has_same_ends}
use Rattle.generation.proofs.FlagUnused.{generated_leaves_the_flag}
use Rattle.exactness.specs.Exact.{IsExact}
use Rattle.pipeline.specs.Chain.{IsChain}
use Rattle.pipeline.specs.Whole.{IsWhole}
use Rattle.pipeline.specs.Taken.{AreTaken}
use Rattle.pipeline.proofs.ChainExact.{chain_is_exact}
use Rattle.pipeline.proofs.TakenSigned.{same_context, bytes_take_words}

module _ (u : TypedUnit) (levels : Name → Level) (generated flat : SimplUnit) (local heap word last : FinalUnit)
    (taken : AreTaken u levels generated flat local heap word last) where
  unused_flag : HasUnusedFlag generated
  unused_flag = subst HasUnusedFlag (sym taken.generation) (generated_leaves_the_flag u levels taken.typed)

  word_formed : IsWellFormed word
  word_formed = units_formed heap word taken.heap_formed taken.words

  pub taken_is_chain : IsChain u levels generated flat local heap word last
  taken_is_chain = record {
    generation = subst (λ s. HasEndsOf u levels s) (sym taken.generation) (generated_has_same_ends u taken.typed levels);
    exceptions = (units_run_alike generated flat unused_flag taken.exceptions).runs;
    locals = (units_keep_locals flat local taken.flat_formed taken.locals).runs;
    heaps = (units_keep_heaps levels local heap taken.local_formed taken.heaps).runs;
    words = λ p n. subst (λ ctx. WordsKept ctx (program_runs heap p n) (program_runs word p n))
        (same_context word last (taken_alike word last taken.equality))
        ((units_keep_words heap word taken.heap_formed taken.words).runs p n);
    equality = (units_keep word last word_formed taken.last_formed taken.equality).runs;
  }

  pub taken_is_whole : IsWhole u levels flat local word last
  taken_is_whole = record {
    typed = taken.typed;
    signatures = taken.exceptions.signatures ∙ ap (λ (s : SimplUnit). s.signatures) taken.generation;
    layout = taken.locals.layout ∙ taken.exceptions.layout ∙ ap (λ (s : SimplUnit). s.layout) taken.generation;
    globals = taken.locals.globals ∙ taken.exceptions.globals ∙ ap (λ (s : SimplUnit). s.globals) taken.generation;
    words = bytes_take_words u.layout.target levels local.layout _ word
        u.functions local.functions heap.functions word.functions last.functions
        taken.heaps.functions taken.words.functions taken.equality.functions taken.programs.functions;
    alike = taken_alike word last taken.equality;
    programs = taken.programs;
  }

  pub taken_is_exact : IsExact u levels last
  taken_is_exact = chain_is_exact u levels generated flat local heap word last taken_is_chain taken_is_whole
