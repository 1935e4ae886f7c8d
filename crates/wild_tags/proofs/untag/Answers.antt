use Rattle.wild_tags.proofs.WordLaws.{positive}
use Rattle.wild_tags.proofs.UntagDone.{untag-none, untag-parts, untag-up_tags, untag-up_data, untag-mid_small, untag-down_tags, untag-down_data, untag-clear_small, untag-clear_tags, untag-done}
use Rattle.wild_tags.proofs.untag.Goals as goal

pub returns-then-n-eq0 : goal.returns-then-n-eq0
returns-then-n-eq0 c = untag-none c.args.flat.now _ _ _ c.if-n-eq0.true

pub zero_tagged_up-requires-clause-tags : goal.zero_tagged_up-requires-clause-tags
zero_tagged_up-requires-clause-tags c =
    let parts = untag-parts _ _ _ _ _ _ _ _ _ _ _ c.requires (positive _ c.if-n-eq0.false) c.of-area.ensures.at c.of-area.ensures.length c.word_of-first.ensures c.end_of-end.ensures c.turn.ensures c.min.ensures c.max-turn.ensures in
    untag-up_tags _ _ _ _ _ _ _ _ _ parts

pub zero_tagged_up-requires-clause-data : goal.zero_tagged_up-requires-clause-data
zero_tagged_up-requires-clause-data c =
    let parts = untag-parts _ _ _ _ _ _ _ _ _ _ _ c.requires (positive _ c.if-n-eq0.false) c.of-area.ensures.at c.of-area.ensures.length c.word_of-first.ensures c.end_of-end.ensures c.turn.ensures c.min.ensures c.max-turn.ensures in
    untag-up_data _ _ _ _ _ _ _ _ _ parts

pub zero_tagged_down-requires-clause-tags : goal.zero_tagged_down-requires-clause-tags
zero_tagged_down-requires-clause-tags c =
    let parts = untag-parts _ _ _ _ _ _ _ _ _ _ _ c.requires (positive _ c.if-n-eq0.false) c.of-area.ensures.at c.of-area.ensures.length c.word_of-first.ensures c.end_of-end.ensures c.turn.ensures c.min.ensures c.max-turn.ensures in
    untag-down_tags c.args.flat.now _ _ _ _ _ _ _ _ _ parts c.zero_tagged_up.ensures

pub zero_tagged_down-requires-clause-data : goal.zero_tagged_down-requires-clause-data
zero_tagged_down-requires-clause-data c =
    let parts = untag-parts _ _ _ _ _ _ _ _ _ _ _ c.requires (positive _ c.if-n-eq0.false) c.of-area.ensures.at c.of-area.ensures.length c.word_of-first.ensures c.end_of-end.ensures c.turn.ensures c.min.ensures c.max-turn.ensures in
    untag-down_data c.args.flat.now _ _ _ _ _ _ _ _ _ parts c.zero_tagged_up.ensures

pub zero_tagged_down-requires-clause-small : goal.zero_tagged_down-requires-clause-small
zero_tagged_down-requires-clause-small c = untag-mid_small c.args.flat.now _ _ _ _ _ c.zero_tagged_up.ensures c.of-area.ensures.small

pub clear_tags-requires-clause-inside : goal.clear_tags-requires-clause-inside
clear_tags-requires-clause-inside c =
    let parts = untag-parts _ _ _ _ _ _ _ _ _ _ _ c.requires (positive _ c.if-n-eq0.false) c.of-area.ensures.at c.of-area.ensures.length c.word_of-first.ensures c.end_of-end.ensures c.turn.ensures c.min.ensures c.max-turn.ensures in
    untag-clear_tags c.args.flat.now _ _ _ _ _ _ _ _ _ _ parts c.zero_tagged_up.ensures c.zero_tagged_down.ensures

pub clear_tags-requires-clause-small : goal.clear_tags-requires-clause-small
clear_tags-requires-clause-small c =
    let parts = untag-parts _ _ _ _ _ _ _ _ _ _ _ c.requires (positive _ c.if-n-eq0.false) c.of-area.ensures.at c.of-area.ensures.length c.word_of-first.ensures c.end_of-end.ensures c.turn.ensures c.min.ensures c.max-turn.ensures in
    untag-clear_small c.args.flat.now _ _ _ _ _ _ _ _ _ _ parts c.zero_tagged_up.ensures c.zero_tagged_down.ensures c.of-area.ensures.small

pub returns : goal.returns
returns c =
    let parts = untag-parts _ _ _ _ _ _ _ _ _ _ _ c.requires (positive _ c.if-n-eq0.false) c.of-area.ensures.at c.of-area.ensures.length c.word_of-first.ensures c.end_of-end.ensures c.turn.ensures c.min.ensures c.max-turn.ensures in
    untag-done c.args.flat.now _ _ _ _ _ _ _ _ _ _ _ parts c.of-area.ensures.bytes c.zero_tagged_up.ensures c.zero_tagged_down.ensures c.clear_tags.ensures
