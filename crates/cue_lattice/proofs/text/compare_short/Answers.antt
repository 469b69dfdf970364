use Rattle.std.proofs.Common.{refl, sym, ◌∙◌, arith}
use Rattle.cue_lattice.proofs.Words.{small_from, word_compared, last_word, ends, ends_first, ends_second, ends_third, ends_last, second_words, last_bytes}
use Rattle.cue_lattice.proofs.text.compare_short.Goals as goal

pub returns-in_default : goal.returns-in_default
returns-in_default c =
    let a = c.args.room.now in
    let b = c.args.others.now in
    let s = small_from a c.fits-room in
    let t = small_from b c.fits-others in
    let first = word_compared a b 0 _ _ c.cmp.result c.told-room c.told-others (omega arith) s t c.word_at.ensures c.word_at-2.ensures c.cmp.ensures in
    ends c.args.len c.args.more a b c.cmp.result (second_words a b) (last_bytes a b) c.cmp.result c.told-room c.told-others c.requires.left c.requires.right first refl refl (ends_first c.args.len c.args.more c.cmp.result (second_words a b) (last_bytes a b) c.in_default.not-Equal)

pub returns-in_default-cmp : goal.returns-in_default-cmp
returns-in_default-cmp c =
    let a = c.args.room.now in
    let b = c.args.others.now in
    let s = small_from a c.fits-room in
    let t = small_from b c.fits-others in
    let first = word_compared a b 0 _ _ c.cmp.result c.told-room c.told-others (omega arith) s t c.word_at.ensures c.word_at-2.ensures c.cmp.ensures in
    let second = word_compared a b 8 _ _ c.cmp-2.result c.told-room c.told-others (omega arith) s t c.word_at-3.ensures c.word_at-4.ensures c.cmp-2.ensures in
    ends c.args.len c.args.more a b c.cmp.result c.cmp-2.result (last_bytes a b) c.cmp-2.result c.told-room c.told-others c.requires.left c.requires.right first second refl (ends_second c.args.len c.args.more c.cmp.result c.cmp-2.result (last_bytes a b) c.in-Equal.is c.in_default-cmp.not-Equal)

pub returns-in_default-cmp-2 : goal.returns-in_default-cmp-2
returns-in_default-cmp-2 c =
    let a = c.args.room.now in
    let b = c.args.others.now in
    let s = small_from a c.fits-room in
    let t = small_from b c.fits-others in
    let first = word_compared a b 0 _ _ c.cmp.result c.told-room c.told-others (omega arith) s t c.word_at.ensures c.word_at-2.ensures c.cmp.ensures in
    let second = word_compared a b 8 _ _ c.cmp-2.result c.told-room c.told-others (omega arith) s t c.word_at-3.ensures c.word_at-4.ensures c.cmp-2.ensures in
    let third = word_compared a b 14 _ _ c.cmp-3.result c.told-room c.told-others (omega arith) s t c.word_at-5.ensures c.word_at-6.ensures c.cmp-3.ensures ∙ last_word a b c.told-room c.told-others (sym second ∙ c.in-Equal-cmp.is) in
    ends c.args.len c.args.more a b c.cmp.result c.cmp-2.result c.cmp-3.result c.cmp-3.result c.told-room c.told-others c.requires.left c.requires.right first second third
    (ends_third c.args.len c.args.more c.cmp.result c.cmp-2.result c.cmp-3.result c.in-Equal.is c.in-Equal-cmp.is c.in_default-cmp-2.not-Equal)

pub returns-in-Equal-cmp-2 : goal.returns-in-Equal-cmp-2
returns-in-Equal-cmp-2 c =
    let a = c.args.room.now in
    let b = c.args.others.now in
    let s = small_from a c.fits-room in
    let t = small_from b c.fits-others in
    let first = word_compared a b 0 _ _ c.cmp.result c.told-room c.told-others (omega arith) s t c.word_at.ensures c.word_at-2.ensures c.cmp.ensures in
    let second = word_compared a b 8 _ _ c.cmp-2.result c.told-room c.told-others (omega arith) s t c.word_at-3.ensures c.word_at-4.ensures c.cmp-2.ensures in
    let third = word_compared a b 14 _ _ c.cmp-3.result c.told-room c.told-others (omega arith) s t c.word_at-5.ensures c.word_at-6.ensures c.cmp-3.ensures ∙ last_word a b c.told-room c.told-others (sym second ∙ c.in-Equal-cmp.is) in
    ends c.args.len c.args.more a b c.cmp.result c.cmp-2.result c.cmp-3.result c.cmp-in-Equal-cmp-2.result c.told-room c.told-others c.requires.left c.requires.right first second third
    (ends_last c.args.len c.args.more c.cmp.result c.cmp-2.result c.cmp-3.result c.cmp-in-Equal-cmp-2.result c.in-Equal.is c.in-Equal-cmp.is c.in-Equal-cmp-2.is c.cmp-in-Equal-cmp-2.ensures)
