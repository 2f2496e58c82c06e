-- What a chain of the code's facts stands for, the newest first, and what is in scope there. The names that passed parts bind
-- aren't told.
use Rattle.std.specs.Prelude.{List, [], ◌∷◌}
use Rattle.expression_lang.specs.Sort.{Scope}
use Rattle.expression_lang.specs.Sorted.{scope_with}
use Rattle.expression_lang.specs.CodeSort.{scalar_of, scope_of}
use Rattle.ac_expr.specs.declared.chain.Facts as C
use Rattle.ac_expr.specs.Fact.{Fact}
use Rattle.ac_expr.specs.Facts.{without_name, without_reads}
use Rattle.ac_expr.specs.Passed.{Part, passed}
use Rattle.ac_expr.specs.CodeFacts.{fact_of}

abbrev pub facts_of : {S : Type 0} → (S → List Part) → C.Facts S → List Fact
facts_of parts (C.None l globals names) = []
facts_of parts (C.With' p rest f) = fact_of f.now ∷ facts_of parts rest
facts_of parts (C.Bound' p rest x s) = without_name x.now (facts_of parts rest)
facts_of parts (C.WithoutReads' p rest) = without_reads (facts_of parts rest)
facts_of parts (C.Passed' p rest s n) = passed n (parts s) (facts_of parts rest)

abbrev pub scope_of_facts : {S : Type 0} → C.Facts S → Scope
scope_of_facts (C.None l globals names) = scope_of l.now names.now globals.now
scope_of_facts (C.With' p rest f) = scope_of_facts rest
scope_of_facts (C.Bound' p rest x s) = scope_with (x.now ∷ []) (scalar_of s ∷ []) (scope_of_facts rest)
scope_of_facts (C.WithoutReads' p rest) = scope_of_facts rest
scope_of_facts (C.Passed' p rest s n) = scope_of_facts rest
