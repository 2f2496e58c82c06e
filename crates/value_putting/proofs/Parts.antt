-- Programs and places from their parts, with a value put in.
use Rattle.std.proofs.Common.{◌≡◌, Bool, true, false, cond, List, refl, ap, ◌∙◌}
use Rattle.c_values.specs.Name.{Name, is_among}
use Rattle.c_values.specs.Types.{CType}
use Rattle.expression_lang.specs.Expression.{Exp, Path}
use Rattle.ac_expr.specs.Substituted.{substituted, path_substituted}
use Rattle.monad_lang.specs.Program as M
use Rattle.monad_lang.specs.Program.{Mon, Start, Place}
use Rattle.monad_lang.specs.Run.{start_names}
use Rattle.program_facts.specs.Substituted.{starts_substituted, place_substituted, program_substituted}
use Rattle.value_putting.specs.Parts.{program_behind, header_behind}

pub bind_put : (x : Name) (e : Exp) (m first : Mon) (xs own : List Name) (n : Mon) (bound : Bool) → first ≡ program_substituted x e m → own ≡ xs →
    bound ≡ is_among x xs → M.Bind first own (program_behind x e bound n) ≡ program_substituted x e (M.Bind m xs n)
bind_put x e m first xs own n bound h i j =
    ap (λ q. M.Bind q own (program_behind x e bound n)) h
    ∙ ap (λ ys. M.Bind (program_substituted x e m) ys (program_behind x e bound n)) i
    ∙ ap (λ b. M.Bind (program_substituted x e m) xs (program_behind x e b n)) j

-- a loop that binds the name or doesn't
by_bound : (ss : List Start) (guard g test t : Exp) (m n : Mon) (b : Bool) →
    M.Loop ss (cond b guard g) (cond b test t) (cond b m n) ≡ cond b (M.Loop ss guard test m) (M.Loop ss g t n)
by_bound ss guard g test t m n true = refl
by_bound ss guard g test t m n false = refl

pub loop_put : (x : Name) (e : Exp) (starts : List Start) (guard test : Exp) (m : Mon) (bound : Bool) → bound ≡ is_among x (start_names starts) →
    header_behind x e bound starts guard test (program_behind x e bound m) ≡ program_substituted x e (M.Loop starts guard test m)
loop_put x e starts guard test m bound h =
    ap (λ b. header_behind x e b starts guard test (program_behind x e b m)) h
    ∙ by_bound (starts_substituted x e starts) guard (substituted x e guard) test (substituted x e test) m (program_substituted x e m)
    (is_among x (start_names starts))

pub stored_put : (x : Name) (e : Exp) (t u : CType) (p q : Exp) (path r : Path) → u ≡ t → q ≡ substituted x e p → r ≡ path_substituted x e path →
    M.Stored u q r ≡ place_substituted x e (M.Stored t p path)
stored_put x e t u p q path r h i j =
    ap (λ a. M.Stored a q r) h ∙ ap (λ a. M.Stored t a r) i ∙ ap (λ a. M.Stored t (substituted x e p) a) j

pub written_put : (x : Name) (e : Exp) (t u : CType) (p q : Exp) (path r : Path) → u ≡ t → q ≡ substituted x e p → r ≡ path_substituted x e path →
    M.Written u q r ≡ place_substituted x e (M.Written t p path)
written_put x e t u p q path r h i j =
    ap (λ a. M.Written a q r) h ∙ ap (λ a. M.Written t a r) i ∙ ap (λ a. M.Written t (substituted x e p) a) j

pub write_put : (x : Name) (e : Exp) (place q : Place) (a b : Exp) → q ≡ place_substituted x e place → b ≡ substituted x e a →
    M.Write q b ≡ program_substituted x e (M.Write place a)
write_put x e place q a b h i = ap (λ r. M.Write r b) h ∙ ap (λ c. M.Write (place_substituted x e place) c) i
