use Rattle.std.proofs.Common.{subst, sym}
use Rattle.std.specs.Str.{IsUtf8}
use Rattle.bc_names.proofs.Ascii.{root_is_text, no_fault}
use Rattle.bc_names.proofs.name.Name.root_str.Goals as goal

pub unwrap-requires : goal.unwrap-requires
unwrap-requires c = no_fault _ _ _ _ c.from_utf8.ensures.cases (subst IsUtf8 (sym c.root.ensures.value) (root_is_text c.args.self.now c.root.ensures.name))
