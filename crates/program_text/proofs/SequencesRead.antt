-- The parts of sequences, one pair more.
use Rattle.std.proofs.Common.{◌≡◌, ℕ, ◌==◌, Bool, true, false, cond, not, List, [], ◌∷◌, ◌++◌, length, Some, None, Ok, Err, refl, ap, sym, ◌∙◌}
use Rattle.std.proofs.lemmas.Bool.{cond-true, cond-false}
use Rattle.c_values.specs.Name.{Name}
use Rattle.ac_sx.specs.Tree.{Tree, Trees, no_trees, more}
use Rattle.expression_text.specs.declared.fault.TextFault.{TextFault}
use Rattle.expression_text.specs.declared.fault.TextFault.TheVariants as X
use Rattle.expression_text.specs.CodeFault.{Fails}
use Rattle.expression_text.specs.Reading.{Read, ◌>>=◌, made}
use Rattle.expression_text.specs.Lists.{names_at}
use Rattle.monad_lang.specs.Program.{Mon, Bind}
use Rattle.monad_lang.specs.declared.fronts.Front as F
use Rattle.monad_lang.specs.CodeFront.{with_front, with_fronts}
use Rattle.monad_lang.proofs.WithFronts.{with_fronts_push}
use Rattle.ac_sx.specs.declared.sx.Sx as S
use Rattle.ac_sx.specs.CodeSx.{trees_in, one_of}
use Rattle.program_text.specs.MonReading.{is_odd, begins_do, mon_at, sequence_at}
use Rattle.program_text.specs.CodeMonRows.{bind_of}
use Rattle.program_text.proofs.KindLaws.{one_is}

pub odd_ended : (xs : List S.Sx) (e whole : Bool) → None ≡ bind_of (trees_in xs) → e ≡ (length xs == 0) → is_odd (trees_in xs) ≡ whole → not e ≡ whole
odd_ended [] e whole none is so_far = ap not is ∙ so_far
odd_ended (x ∷ []) e whole none is so_far = ap not is ∙ so_far
odd_ended (x ∷ y ∷ ys) e whole none is so_far = absurd cc

bind_is : (ts : Trees) (x : Tree × Tree × Trees) → Some x ≡ bind_of ts → ts ≡ more x.0 (more x.1 x.2)
bind_is (more t (more u us)) x e = let same : ◌≡◌ {A = Tree × Tree × Trees} x (t, u, us) = cc in ap (λ (y : Tree × Tree × Trees). more y.0 (more y.1 y.2)) (sym same)
bind_is _ x e = absurd cc

made_bind : (before now : List F.Front) (f : F.Front) (m : Mon) (ns : List Name) (r : Read Mon) → now ≡ before ++ f ∷ [] → ((l : Mon) → with_front f l ≡ Bind m ns l) → made (with_fronts now) r ≡ made (with_fronts before) (r >>= λ z. Ok (Bind m ns z.0, z.1))
made_bind before now f m ns (Ok (l, n)) pushed is = ap (λ y. Ok (y, n)) (ap (λ xs. with_fronts xs l) pushed ∙ with_fronts_push before f l ∙ ap (with_fronts before) (is l))
made_bind before now f m ns (Err n) pushed is = refl

pub sequence_more : (before now : List F.Front) (f : F.Front) (at n k : ℕ) (ts : Trees) (x : Tree × Tree × Trees) (ns : List Name) (m : Mon) (whole : Read Mon) → Some x ≡ bind_of ts → now ≡ before ++ f ∷ [] →
    names_at at x.0 ≡ Ok (ns, n) → mon_at n x.1 ≡ Ok (m, k) → ((l : Mon) → with_front f l ≡ Bind m ns l) → made (with_fronts before) (sequence_at at ts) ≡ whole → made (with_fronts now) (sequence_at k x.2) ≡ whole
sequence_more before now f at n k ts x ns m whole e pushed named read is so_far =
    made_bind before now f m ns (sequence_at k x.2) pushed is
    ∙ ap (λ r. made (with_fronts before) (r >>= λ y. sequence_at y.1 x.2 >>= λ z. Ok (Bind y.0 ns z.0, z.1))) (sym read)
    ∙ ap (λ r. made (with_fronts before) (r >>= λ w. mon_at w.1 x.1 >>= λ y. sequence_at y.1 x.2 >>= λ z. Ok (Bind y.0 w.0 z.0, z.1))) (sym named)
    ∙ ap (λ us. made (with_fronts before) (sequence_at at us)) (sym (bind_is ts x e))
    ∙ so_far

-- no part is left
pub sequence_empty : (of : Mon → Mon) (at : ℕ) (ts : Trees) (whole : Read Mon) → None ≡ bind_of ts → None ≡ one_of ts → made of (sequence_at at ts) ≡ whole → whole ≡ Err at
sequence_empty of at no_trees whole none no_one so_far = sym so_far
sequence_empty of at (more t no_trees) whole none no_one so_far = absurd cc
sequence_empty of at (more t (more u us)) whole none no_one so_far = absurd cc

-- the last part alone
last_read : (of : Mon → Mon) (at : ℕ) (ts : Trees) (t : Tree) (whole : Read Mon) → Some t ≡ one_of ts → made of (sequence_at at ts) ≡ whole → whole ≡ made of (cond {A = Read Mon} (begins_do t) (Err at) (mon_at at t))
last_read of at ts t whole e so_far = sym so_far ∙ ap (λ us. made of (sequence_at at us)) (one_is ts t (sym e))

pub sequence_in_sequence : (of : Mon → Mon) (at : ℕ) (ts : Trees) (t : Tree) (whole : Read Mon) → Some t ≡ one_of ts → begins_do t ≡ true → made of (sequence_at at ts) ≡ whole → whole ≡ Err at
sequence_in_sequence of at ts t whole e is so_far = last_read of at ts t whole e so_far ∙ ap (made of) (cond-true (begins_do t) (Err at) (mon_at at t) is)

single_read : (of : Mon → Mon) (at : ℕ) (ts : Trees) (t : Tree) (whole : Read Mon) → Some t ≡ one_of ts → begins_do t ≡ false → made of (sequence_at at ts) ≡ whole → whole ≡ made of (mon_at at t)
single_read of at ts t whole e is so_far = last_read of at ts t whole e so_far ∙ ap (made of) (cond-false (begins_do t) (Err at) (mon_at at t) is)

pub sequence_done : (of : Mon → Mon) (at k : ℕ) (ts : Trees) (t : Tree) (m all : Mon) (whole : Read Mon) → Some t ≡ one_of ts → begins_do t ≡ false → mon_at at t ≡ Ok (m, k) → all ≡ of m → made of (sequence_at at ts) ≡ whole → whole ≡ Ok (all, k)
sequence_done of at k ts t m all whole e is read built so_far = single_read of at ts t whole e is so_far ∙ ap (made of) read ∙ ap (λ x. Ok (x, k)) (sym built)

-- the last part is refused, and with it the whole
pub sequence_last_refused : (of : Mon → Mon) (fault : TextFault) (at : ℕ) (ts : Trees) (t : Tree) (whole : Read Mon) → Some t ≡ one_of ts → begins_do t ≡ false → Fails fault (mon_at at t) → made of (sequence_at at ts) ≡ whole → Fails fault whole
sequence_last_refused of (X.Shape n) at ts t whole e is bad so_far = single_read of at ts t whole e is so_far ∙ ap (made of) bad
sequence_last_refused of X.Memory at ts t whole e is bad so_far = tt
sequence_last_refused of X.NotText at ts t whole e is bad so_far = bad
sequence_last_refused of X.Deep at ts t whole e is bad so_far = bad

-- names or a program before the last are refused, and with them the whole
bound_read : (of : Mon → Mon) (at : ℕ) (ts : Trees) (x : Tree × Tree × Trees) (whole : Read Mon) → Some x ≡ bind_of ts → made of (sequence_at at ts) ≡ whole →
    whole ≡ made of (names_at at x.0 >>= λ w. mon_at w.1 x.1 >>= λ y. sequence_at y.1 x.2 >>= λ z. Ok (Bind y.0 w.0 z.0, z.1))
bound_read of at ts x whole e so_far = sym so_far ∙ ap (λ us. made of (sequence_at at us)) (bind_is ts x e)

pub sequence_first_refused : (of : Mon → Mon) (fault : TextFault) (at n : ℕ) (ts : Trees) (x : Tree × Tree × Trees) (ns : List Name) (whole : Read Mon) → Some x ≡ bind_of ts → names_at at x.0 ≡ Ok (ns, n) → Fails fault (mon_at n x.1) → made of (sequence_at at ts) ≡ whole → Fails fault whole
sequence_first_refused of (X.Shape j) at n ts x ns whole e named bad so_far =
    bound_read of at ts x whole e so_far
    ∙ ap (λ r. made of (r >>= λ w. mon_at w.1 x.1 >>= λ y. sequence_at y.1 x.2 >>= λ z. Ok (Bind y.0 w.0 z.0, z.1))) named
    ∙ ap (λ r. made of (r >>= λ y. sequence_at y.1 x.2 >>= λ z. Ok (Bind y.0 ns z.0, z.1))) bad
sequence_first_refused of X.Memory at n ts x ns whole e named bad so_far = tt
sequence_first_refused of X.NotText at n ts x ns whole e named bad so_far = bad
sequence_first_refused of X.Deep at n ts x ns whole e named bad so_far = bad
