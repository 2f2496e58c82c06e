-- Both sides together, and what is said of them.
use Rattle.std.proofs.Common.{◌≡◌, ℕ, List, [], ◌++◌, refl, ap, ap₂, ◌∙◌, append_assoc}
use Rattle.correspondence.specs.Outcome.{Outcome, Done, Failed, Stopped}
use Rattle.expression_lang.specs.GuardKind.{GuardKind}
use Rattle.expression_lang.specs.Machine.{Returned}
use Rattle.monad_lang.specs.Run.{Answer}
use Rattle.program_runs.specs.WideRun.{Trouble, Fails}
use Rattle.pipeline.proofs.AcceptedExact.{accepted_is_exact}
use Rattle.certificate_text.specs.CertificateText.{Certificate}
use Rattle.run_start.specs.Start.{bytes_in, globals_in, arguments_in, nested_calls}
use Rattle.run_lines.specs.RunLines.{Verdict, verdict, verdict_text, line_end, c_lines, program_lines}
use Rattle.checking.specs.Checked.{level_in, programs}
use Rattle.checking.specs.CodeJudged.{IsAcceptedAs}
use Rattle.checking.specs.declared.verdicts.Accepted.{Accepted}
use Rattle.running.specs.declared.start.Start as S
use Rattle.running.specs.declared.start.Came as C
use Rattle.running.specs.Runs.{Runs, told}
use Rattle.running.specs.CodeRuns.{unit_at, function_at, memory_at, IsStart, CSide, ProgramSide, c_came, program_came, verdict_for}
use Rattle.running.proofs.Starts.{found, is_begin}
use Rattle.running.proofs.Agree as both

pub same_verdict : (c : Outcome Returned GuardKind) (p : Outcome Answer Trouble) → verdict_for (c_came c) (program_came p) ≡ verdict c (told p)
same_verdict (Done r) (Failed Fails) = refl
same_verdict (Failed k) (Failed Fails) = refl
same_verdict (Stopped v) (Failed Fails) = refl
same_verdict _ _ = refl

module _ (s : S.Start) (is : IsStart s) (text : List ℕ) (c : Certificate) (a : Accepted) (accepted : IsAcceptedAs text (unit_at s) c a) where
  pub both_run : (first second third : List ℕ) (came went : C.Came) (said : Verdict) → CSide s [] first came → ProgramSide s c.functions first second went →
      said ≡ verdict_for came went → third ≡ second ++ (verdict_text said ++ line_end) → Runs (unit_at s) c.functions (memory_at s) third
  both_run first second third came went said x y same written =
      let u = unit_at s in
      let f = function_at s in
      let m = memory_at s in
      let exact = accepted_is_exact u is.typed (level_in c.functions) c.functions accepted.accepted f.name f (found s is) in
      let verdicts : said ≡ verdict x.end (told y.end) =
      same ∙ ap₂ verdict_for x.is y.is ∙ same_verdict x.end y.end in
      record {
        function = f;
        named = is.named;
        begins = is_begin s is;
        c = x.end;
        c_is = x.ends;
        program = y.end;
        program_is = y.ends;
        written =
            written
            ∙ ap₂ (λ ls d. ls ++ (verdict_text d ++ line_end)) (y.written ∙ ap (λ ls. ls ++ program_lines u f m (told y.end)) x.written) verdicts
            ∙ append_assoc (c_lines u f m x.end) (program_lines u f m (told y.end)) _;
        agree = both.agree u (level_in c.functions) (programs u c.functions) f exact m.turns nested_calls m.fill (bytes_in m) (globals_in u m) (arguments_in u.layout f m) (is_begin s is) x.end x.ends y.end y.ends;
        fail = both.fail u (level_in c.functions) (programs u c.functions) f exact m.turns nested_calls m.fill (bytes_in m) (globals_in u m) (arguments_in u.layout f m) (is_begin s is) y.end y.ends;
      }
