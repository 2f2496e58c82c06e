-- What a command weighs while it is dropped: each turn to the right makes it lighter.
use Rattle.std.specs.Prelude.{ℕ, ◌+◌, ◌*◌}
use Rattle.simpl_lang.specs.declared.command.Simpl as S

abbrev pub weight : S.Simpl → ℕ
weight S.Skip = 1
weight S.Throw = 1
weight (S.Set x e) = 1
weight (S.SetGlobal x path e) = 1
weight (S.Store t p path e) = 1
weight (S.Pick x) = 1
weight (S.Call x f es) = 1
weight (S.Seq' p a q b) = 1 + (2 * weight a + weight b)
weight (S.Catch' p a q b) = 1 + (2 * weight a + weight b)
weight (S.Cond' e p a q b) = 1 + (2 * weight a + weight b)
weight (S.Guard' c p a) = 1 + weight a
weight (S.While' cs e p a) = 1 + weight a
