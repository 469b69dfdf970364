use Rattle.std.proofs.Common.{◌<◌, ◌∙◌, sym, rules}
use Rattle.cue_lex.proofs.Ascii.{letter_ascii}
use Rattle.cue_lex.proofs.character.is_letter.Goals as goal

pub returns-then-is_ascii : goal.returns-then-is_ascii
returns-then-is_ascii c = let below : c.args.c < 128 = search rules in c.is_ascii_letter.ensures ∙ sym (letter_ascii c.args.c below)
