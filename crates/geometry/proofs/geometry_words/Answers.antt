use Rattle.std.proofs.Common.{[]}
use Rattle.utf8.specs.Ascii.{ascii}
use Rattle.rules.specs.Schema as schema
use Rattle.geometry.proofs.Lines.{lines, line-object, line-then, line-none, optional-map, member-found, member-node}
use Rattle.geometry.proofs.Strings.{code_at}
use Rattle.geometry.proofs.geometry_words.Goals as goal

pub need_lod-b-requires : goal.need_lod-b-requires
unfolding ascii
need_lod-b-requires c = (c.requires.member, member-found _ c.member-level.ensures c.requires.member.node)

pub required_found-c-requires-clause-callable : goal.required_found-c-requires-clause-callable
required_found-c-requires-clause-callable c = λ k b e. search (lines, code_at c.requires e)

pub map_or-requires : goal.map_or-requires
map_or-requires c = λ k e. search (lines, member-node c.member-level.ensures c.requires.member.node e)

pub returns : goal.returns
unfolding ascii
returns c =
    line-object _ c.object-a.ensures
    (line-then _ c.need_lod-b.ensures
    (line-then _ (c.required_found-c.ensures (ascii "type") (schema.geometry_type c.args.object c.args.code) c.requires.member.seeks (λ k b r e p. search lines))
    (line-then [] (optional-map _ c.member-level.ensures schema.lod c.map_or.ensures (λ k e p. search lines)) line-none)))
