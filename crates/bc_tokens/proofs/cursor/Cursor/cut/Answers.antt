use Rattle.bc_tokens.proofs.Runs.{lexeme_low}
use Rattle.bc_tokens.proofs.cursor.Cursor.cut.Goals as goal

pub put_sign-requires-clause-token : goal.put_sign-requires-clause-token
put_sign-requires-clause-token c = lexeme_low c.args.text.now c.in-Some.sign (c.in-Some.ensures {u = tt})
