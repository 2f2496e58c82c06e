-- The two longest words, by their bytes.
use Rattle.std.proofs.Common.{[], ◌∷◌, arith}
use Rattle.std.proofs.lemmas.Slice.Eq.{text_from_reads}
use Rattle.c_lex.proofs.words.unsupported.Goals as goal

pub returns-in-95-5-clause-some : goal.returns-in-95-5-clause-some
returns-in-95-5-clause-some c = text_from_reads _ (95 ∷ 95 ∷ 97 ∷ 116 ∷ 116 ∷ 114 ∷ 105 ∷ 98 ∷ 117 ∷ 116 ∷ 101 ∷ 95 ∷ 95 ∷ []) (omega arith) (cc, (cc, (cc, (cc, (cc, (cc, (cc, (cc, (cc, (cc, (cc, (cc, (cc, tt)))))))))))))

pub returns-in-95-6-clause-some : goal.returns-in-95-6-clause-some
returns-in-95-6-clause-some c = text_from_reads _ (95 ∷ 95 ∷ 101 ∷ 120 ∷ 116 ∷ 101 ∷ 110 ∷ 115 ∷ 105 ∷ 111 ∷ 110 ∷ 95 ∷ 95 ∷ []) (omega arith) (cc, (cc, (cc, (cc, (cc, (cc, (cc, (cc, (cc, (cc, (cc, (cc, (cc, tt)))))))))))))
