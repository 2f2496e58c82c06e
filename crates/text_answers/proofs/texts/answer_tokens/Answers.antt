use Rattle.std.proofs.lemmas.Result.{IfOk-weaker}
use Rattle.c_lex.specs.Lexeme.{lexemes_of}
use Rattle.c_grammar.specs.CodeTree.{unit_of}
use Rattle.text_answers.proofs.Told.{tree_answer, refused_answer}
use Rattle.text_answers.proofs.texts.answer_tokens.Goals as goal

pub answer_tree-requires : goal.answer_tree-requires
answer_tree-requires g c = record {
  tokens = lexemes_of c.args.tokens.items;
  of_text = c.requires;
  is_tree = record { spells = c.in-Ok.ensures.found.0; within = c.in-Ok.ensures.found.1 };
}

pub returns-in-Ok : goal.returns-in-Ok
returns-in-Ok g c =
    IfOk-weaker c.answer_tree.result _ _
    (λ a. tree_answer (g.T.Task.target_for c.args.task.now) (g.T.Task.answers c.args.task.now) (lexemes_of c.args.tokens.items) (unit_of c.in-Ok.tree) a.status a.lines.items (record { spells = c.in-Ok.ensures.found.0; within = c.in-Ok.ensures.found.1 }))
    c.answer_tree.ensures

pub returns-in-Err : goal.returns-in-Err
returns-in-Err g c =
    IfOk-weaker c.parse_refusal.result _ _
    (λ a. refused_answer (g.T.Task.target_for c.args.task.now) (g.T.Task.answers c.args.task.now) (lexemes_of c.args.tokens.items) c.in-Err.fault a.status a.lines.items c.in-Err.ensures.fault)
    c.parse_refusal.ensures
