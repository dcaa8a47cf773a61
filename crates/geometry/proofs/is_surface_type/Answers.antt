use Rattle.fields.specs.Laws.{string-text}
use Rattle.rules.specs.Schema.{is_surface_type}
use Rattle.geometry.proofs.GeometryLaws.{surface-coded, surface-added}
use Rattle.geometry.proofs.Strings.{strings}
use Rattle.geometry.proofs.is_surface_type.Goals as goal

pub surface_code-requires : goal.surface_code-requires
surface_code-requires c = search strings

pub is_added_name-requires : goal.is_added_name-requires
is_added_name-requires c = search strings

pub returns-then-surface_code-ne0 : goal.returns-then-surface_code-ne0
returns-then-surface_code-ne0 c =
    string-text (search strings) is_surface_type c.text_from-from.ensures c.text_to-to.ensures
    (surface-coded _ c.surface_code.ensures c.if-surface_code-ne0.true)

pub returns-else-surface_code-ne0 : goal.returns-else-surface_code-ne0
returns-else-surface_code-ne0 c =
    string-text (search strings) is_surface_type c.text_from-from.ensures c.text_to-to.ensures
    (surface-added _ c.surface_code.ensures c.if-surface_code-ne0.false c.is_added_name.ensures)
