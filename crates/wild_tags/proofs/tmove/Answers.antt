use Rattle.wild_tags.proofs.WordLaws.{positive}
use Rattle.wild_tags.proofs.MoveCode.{move-none, move-sides, base-small, tag-small, row-at, row-inside, move-done}
use Rattle.wild_tags.proofs.tmove.Goals as goal

pub returns-then-n-eq0 : goal.returns-then-n-eq0
returns-then-n-eq0 c = move-none c.args.flat.now _ _ _ _ _ c.if-n-eq0.true

pub row-to-requires-clause-bases : goal.row-to-requires-clause-bases
row-to-requires-clause-bases c =
    let sides = move-sides _ c.args.a c.args.b c.args.c c.args.d _ c.requires (positive _ c.if-n-eq0.false) in
    base-small _ _ _ _ _ _ _ sides.1 (positive _ c.if-n-eq0.false) sides.0 c.of.ensures.at c.of.ensures.length c.word_of.ensures c.of.ensures.small

pub row-to-requires-clause-tags : goal.row-to-requires-clause-tags
row-to-requires-clause-tags c =
    let sides = move-sides _ c.args.a c.args.b c.args.c c.args.d _ c.requires (positive _ c.if-n-eq0.false) in
    tag-small _ _ _ _ _ _ _ sides.1 (positive _ c.if-n-eq0.false) sides.0 c.of.ensures.at c.of.ensures.length c.word_of.ensures c.of.ensures.small

pub row-from-requires-clause-bases : goal.row-from-requires-clause-bases
row-from-requires-clause-bases c =
    let sides = move-sides _ c.args.a c.args.b c.args.c c.args.d _ c.requires (positive _ c.if-n-eq0.false) in
    base-small _ _ _ _ _ _ _ sides.2 (positive _ c.if-n-eq0.false) sides.0 c.of-2.ensures.at c.of-2.ensures.length c.word_of-2.ensures c.of-2.ensures.small

pub row-from-requires-clause-tags : goal.row-from-requires-clause-tags
row-from-requires-clause-tags c =
    let sides = move-sides _ c.args.a c.args.b c.args.c c.args.d _ c.requires (positive _ c.if-n-eq0.false) in
    tag-small _ _ _ _ _ _ _ sides.2 (positive _ c.if-n-eq0.false) sides.0 c.of-2.ensures.at c.of-2.ensures.length c.word_of-2.ensures c.of-2.ensures.small

pub move_words-requires-clause-target : goal.move_words-requires-clause-target
move_words-requires-clause-target c =
    let sides = move-sides _ c.args.a c.args.b c.args.c c.args.d _ c.requires (positive _ c.if-n-eq0.false) in
    row-inside _ _ _ _ _ (row-at _ _ _ _ _ _ _ c.of.ensures.at c.of.ensures.length c.word_of.ensures c.row-to.ensures.words c.row-to.ensures.bases c.row-to.ensures.tags) sides.1 (positive _ c.if-n-eq0.false) sides.0

pub move_words-requires-clause-source : goal.move_words-requires-clause-source
move_words-requires-clause-source c =
    let sides = move-sides _ c.args.a c.args.b c.args.c c.args.d _ c.requires (positive _ c.if-n-eq0.false) in
    row-inside _ _ _ _ _ (row-at _ _ _ _ _ _ _ c.of-2.ensures.at c.of-2.ensures.length c.word_of-2.ensures c.row-from.ensures.words c.row-from.ensures.bases c.row-from.ensures.tags) sides.2 (positive _ c.if-n-eq0.false) sides.0

pub returns : goal.returns
returns c =
    let sides = move-sides _ c.args.a c.args.b c.args.c c.args.d _ c.requires (positive _ c.if-n-eq0.false) in
    move-done c.args.flat.now _ _ _ _ _ _ _ _ (row-at _ _ _ _ _ _ _ c.of.ensures.at c.of.ensures.length c.word_of.ensures c.row-to.ensures.words c.row-to.ensures.bases c.row-to.ensures.tags) (row-at _ _ _ _ _ _ _ c.of-2.ensures.at c.of-2.ensures.length c.word_of-2.ensures c.row-from.ensures.words c.row-from.ensures.bases c.row-from.ensures.tags) sides.1 sides.2 (positive _ c.if-n-eq0.false) sides.0 c.move_words.ensures
