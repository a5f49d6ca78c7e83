use Rattle.std.proofs.Common.{sym}
use Rattle.std.proofs.lemmas.Str.{IsUtf8-from_ascii}
use Rattle.sheet.proofs.LineOf.{name_ascii}
use Rattle.sheet.proofs.name.Name.new.Goals as goal

-- a name is ASCII, and so it is UTF-8
pub unreachable-requires : goal.unreachable-requires
unreachable-requires c = c.in_default.ensures.cases.0 (IsUtf8-from_ascii c.args.bytes.now (name_ascii c.args.bytes.now (sym c.if-not-is_name.ensures)))
