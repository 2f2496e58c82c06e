-- The parts of sequences, one command more.
use Rattle.std.proofs.Common.{◌≡◌, ℕ, true, false, cond, List, [], ◌∷◌, ◌++◌, Some, None, Ok, Err, refl, ap, sym, ◌∙◌}
use Rattle.std.proofs.lemmas.Bool.{cond-true, cond-false}
use Rattle.ac_sx.specs.Tree.{Tree, Trees, no_trees, more}
use Rattle.ac_sx.specs.CodeSx.{one_of}
use Rattle.expression_text.specs.declared.fault.TextFault.{TextFault}
use Rattle.expression_text.specs.declared.fault.TextFault.TheVariants as X
use Rattle.expression_text.specs.CodeFault.{Fails}
use Rattle.expression_text.specs.Reading.{Read, ◌>>=◌, made}
use Rattle.program_text.proofs.KindLaws.{one_is}
use Rattle.simpl_lang.specs.Command.{Simpl, Seq}
use Rattle.simpl_lang.specs.declared.fronts.Front as F
use Rattle.simpl_lang.specs.CodeFront.{with_front, with_fronts}
use Rattle.simpl_lang.proofs.WithFronts.{with_fronts_push}
use Rattle.command_text.specs.CommandReading.{begins_seq, command_at, sequence_at}
use Rattle.command_text.specs.CodeCommandRows.{front_of}

-- two parts at least are read as a command and the others
fronted : (at : ℕ) (ts : Trees) (x : Tree × Trees) → Some x ≡ front_of ts → sequence_at at ts ≡ (command_at at x.0 >>= λ y. sequence_at y.1 x.1 >>= λ z. Ok (Seq y.0 z.0, z.1))
fronted at (more t (more u us)) x e = let same : ◌≡◌ {A = Tree × Trees} x (t, more u us) = cc in ap (λ (y : Tree × Trees). command_at at y.0 >>= λ v. sequence_at v.1 y.1 >>= λ z. Ok (Seq v.0 z.0, z.1)) (sym same)
fronted at _ x e = absurd cc

made_front : (before now : List F.Front) (f : F.Front) (c : Simpl) (r : Read Simpl) → now ≡ before ++ f ∷ [] → ((l : Simpl) → with_front f l ≡ Seq c l) → made (with_fronts now) r ≡ made (with_fronts before) (r >>= λ z. Ok (Seq c z.0, z.1))
made_front before now f c (Ok (l, n)) pushed is = ap (λ y. Ok (y, n)) (ap (λ xs. with_fronts xs l) pushed ∙ with_fronts_push before f l ∙ ap (with_fronts before) (is l))
made_front before now f c (Err n) pushed is = refl

pub sequence_more : (before now : List F.Front) (f : F.Front) (at n : ℕ) (ts : Trees) (x : Tree × Trees) (c : Simpl) (whole : Read Simpl) → Some x ≡ front_of ts → now ≡ before ++ f ∷ [] → command_at at x.0 ≡ Ok (c, n) → ((l : Simpl) → with_front f l ≡ Seq c l) →
    made (with_fronts before) (sequence_at at ts) ≡ whole → made (with_fronts now) (sequence_at n x.1) ≡ whole
sequence_more before now f at n ts x c whole e pushed read is so_far =
    made_front before now f c (sequence_at n x.1) pushed is
    ∙ ap (λ r. made (with_fronts before) (r >>= λ y. sequence_at y.1 x.1 >>= λ z. Ok (Seq y.0 z.0, z.1))) (sym read)
    ∙ ap (made (with_fronts before)) (sym (fronted at ts x e))
    ∙ so_far

-- no part is left
pub sequence_empty : (of : Simpl → Simpl) (at : ℕ) (ts : Trees) (whole : Read Simpl) → None ≡ front_of ts → None ≡ one_of ts → made of (sequence_at at ts) ≡ whole → whole ≡ Err at
sequence_empty of at no_trees whole none no_one so_far = sym so_far
sequence_empty of at (more t no_trees) whole none no_one so_far = absurd cc
sequence_empty of at (more t (more u us)) whole none no_one so_far = absurd cc

-- the last part alone
last_read : (of : Simpl → Simpl) (at : ℕ) (ts : Trees) (t : Tree) (whole : Read Simpl) → Some t ≡ one_of ts → made of (sequence_at at ts) ≡ whole → whole ≡ made of (cond {A = Read Simpl} (begins_seq t) (Err at) (command_at at t))
last_read of at ts t whole e so_far = sym so_far ∙ ap (λ us. made of (sequence_at at us)) (one_is ts t (sym e))

pub sequence_in_sequence : (of : Simpl → Simpl) (at : ℕ) (ts : Trees) (t : Tree) (whole : Read Simpl) → Some t ≡ one_of ts → begins_seq t ≡ true → made of (sequence_at at ts) ≡ whole → whole ≡ Err at
sequence_in_sequence of at ts t whole e is so_far = last_read of at ts t whole e so_far ∙ ap (made of) (cond-true (begins_seq t) (Err at) (command_at at t) is)

single_read : (of : Simpl → Simpl) (at : ℕ) (ts : Trees) (t : Tree) (whole : Read Simpl) → Some t ≡ one_of ts → begins_seq t ≡ false → made of (sequence_at at ts) ≡ whole → whole ≡ made of (command_at at t)
single_read of at ts t whole e is so_far = last_read of at ts t whole e so_far ∙ ap (made of) (cond-false (begins_seq t) (Err at) (command_at at t) is)

pub sequence_done : (of : Simpl → Simpl) (at k : ℕ) (ts : Trees) (t : Tree) (c all : Simpl) (whole : Read Simpl) → Some t ≡ one_of ts → begins_seq t ≡ false → command_at at t ≡ Ok (c, k) → all ≡ of c → made of (sequence_at at ts) ≡ whole → whole ≡ Ok (all, k)
sequence_done of at k ts t c all whole e is read built so_far = single_read of at ts t whole e is so_far ∙ ap (made of) read ∙ ap (λ x. Ok (x, k)) (sym built)

-- the last part is refused, and with it the whole
pub sequence_last_refused : (of : Simpl → Simpl) (fault : TextFault) (at : ℕ) (ts : Trees) (t : Tree) (whole : Read Simpl) → Some t ≡ one_of ts → begins_seq t ≡ false → Fails fault (command_at at t) → made of (sequence_at at ts) ≡ whole → Fails fault whole
sequence_last_refused of (X.Shape n) at ts t whole e is bad so_far = single_read of at ts t whole e is so_far ∙ ap (made of) bad
sequence_last_refused of X.Memory at ts t whole e is bad so_far = tt
sequence_last_refused of X.NotText at ts t whole e is bad so_far = bad
sequence_last_refused of X.Deep at ts t whole e is bad so_far = bad

-- a command before the last is refused, and with it the whole
pub sequence_first_refused : (of : Simpl → Simpl) (fault : TextFault) (at : ℕ) (ts : Trees) (x : Tree × Trees) (whole : Read Simpl) → Some x ≡ front_of ts → Fails fault (command_at at x.0) → made of (sequence_at at ts) ≡ whole → Fails fault whole
sequence_first_refused of (X.Shape n) at ts x whole e bad so_far =
    sym so_far ∙ ap (made of) (fronted at ts x e) ∙ ap (λ r. made of (r >>= λ y. sequence_at y.1 x.1 >>= λ z. Ok (Seq y.0 z.0, z.1))) bad
sequence_first_refused of X.Memory at ts x whole e bad so_far = tt
sequence_first_refused of X.NotText at ts x whole e bad so_far = bad
sequence_first_refused of X.Deep at ts x whole e bad so_far = bad
