-- What holds of a translation that is the definition's.
use Rattle.std.proofs.Common.{◌≡◌, true, Bool, List, [], map, Option, Some, sym, subst}
use Rattle.c_values.specs.Name.{Name}
use Rattle.expression_lang.specs.Sort.{Kind, Level, word_sort_of}
use Rattle.expression_lang.specs.Signature.{Binder}
use Rattle.ac_expr.specs.SameExp.{same_exp}
use Rattle.ac_expr.proofs.SameExps.{exp_is}
use Rattle.monad_lang.specs.Program.{Mon}
use Rattle.monad_lang.specs.CodeProgram.{mon_of}
use Rattle.monad_lang.specs.Sorted.{scalars_given}
use Rattle.rule_word.specs.Rule.{Context}
use Rattle.rule_word.specs.Scopes.{words}
use Rattle.rule_word.specs.Table.{Takes}
use Rattle.rule_word.specs.ProgramsAbstracted.{AbstractedProgram, program_abstracted, binds_words}
use Rattle.rule_word.specs.Ready.{is_numbers_level, program_ready, is_form_of, is_heap_form_of}
use Rattle.rule_word.specs.CodeRule.{tree_of}
use Rattle.rule_word.proofs.LevelForm.{form_kept}
use Rattle.rule_word.proofs.ProgramsTaken.{program_taken}
use Rattle.word_abstract.specs.declared.translated.Translated as T
use Rattle.word_abstract.specs.CodeTranslated.{translated_in}

pub taken : (x : T.Translated) (numbers : Bool) (ctx : Context) (table : Name → Option Kind) (names : List Binder) (m : Mon) (ks : List Kind) →
    translated_in x ≡ program_abstracted same_exp numbers ctx table [] names m ks →
    scalars_given (words ctx names) m ≡ Some (map word_sort_of ks) → binds_words (words ctx names) m ≡ true →
    Takes ctx names (tree_of x.tree) m (mon_of x.right.value) ks
taken x numbers ctx table names m ks h sorted binds =
    subst (λ (d : AbstractedProgram). Takes ctx names d.tree m d.right ks) (sym h) (program_taken ctx same_exp exp_is numbers table [] names m ks sorted binds)

pub formed : (x : T.Translated) (level : Level) (ctx : Context) (table : Name → Option Kind) (names : List Binder) (m : Mon) (ks : List Kind) →
    translated_in x ≡ program_abstracted same_exp (is_numbers_level level) ctx table [] names m ks →
    program_ready same_exp (is_numbers_level level) ctx table [] names m ks ≡ true → is_heap_form_of level m ≡ true →
    is_form_of level (mon_of x.right.value) ≡ true
formed x level ctx table names m ks h ready form =
    subst (λ (d : AbstractedProgram). is_form_of level d.right ≡ true) (sym h) (form_kept same_exp ctx table names m ks level ready form)
