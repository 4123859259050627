use Rattle.std.proofs.Common.{Ok, None, rules, sym, ap, inl, refl}
use Rattle.lsm_table.proofs.Indexes.{not_located}
use Rattle.lsm_cache.proofs.Gettings.{nothing_located, answer_whole, Hit, hit_ok, hit_err, hit_cause, hit_inside, hit_kept, hit_read, hit_blocks, hit_others, Miss, miss_inside, miss_kept, miss_refused, miss_blocks, miss_others, either_way, was_read, read_ok, read_err, read_cause, read_read, read_blocks, read_others}
use Rattle.lsm_cache.proofs.getting.cached_get.Goals as goal

pub returns-in_default-clause-ok : goal.returns-in_default-clause-ok
returns-in_default-clause-ok g c = λ are text told. inl (not_located c.args.key.now c.args.table.now.index c.in_default.ensures.place, refl)

pub returns-in_default-clause-whole : goal.returns-in_default-clause-whole
returns-in_default-clause-whole g c = λ are. answer_whole c.args.table.now c.args.key.now (Ok None) c.in_default.ensures.shows (λ text told. inl (not_located c.args.key.now c.args.table.now.index c.in_default.ensures.place, refl)) tt

pub returns-in_default-clause-kept : goal.returns-in_default-clause-kept
returns-in_default-clause-kept g c = λ place block located found. absurd (nothing_located c.args.key.now c.args.table.now.index place (not_located c.args.key.now c.args.table.now.index c.in_default.ensures.place) located)

pub returns-in_default-clause-read : goal.returns-in_default-clause-read
returns-in_default-clause-read g c = λ place located none. absurd (nothing_located c.args.key.now c.args.table.now.index place (not_located c.args.key.now c.args.table.now.index c.in_default.ensures.place) located)

pub returns-in-Some-get : goal.returns-in-Some-get
returns-in-Some-get g c =
    let h : Hit c.args.table.now c.args.key.now c.args.cache.now c.get.follows.lender-at-none c.answer_of.result c.properties-number.result.number c.in-Some.place c.in-Some-get.block.now = record {
      same = ap (λ p. p.number) c.properties-number.ensures.properties;
      located = c.in-Some.ensures.place;
      found = sym c.in-Some-get.ensures.block;
      answer_is = c.answer_of.ensures;
      now_is = c.get.follows.holds-at-none;
    } in
    record {
      ok = hit_ok h;
      err = hit_err h;
      whole = λ are. answer_whole c.args.table.now c.args.key.now c.answer_of.result c.in-Some.ensures.shows (hit_ok h are) (hit_err h);
      cause = hit_cause h _;
      view = search rules;
      index = refl;
      properties = refl;
      outside = hit_inside h _;
      kept = hit_kept h;
      read = λ place. hit_read h _ place;
      blocks = hit_blocks h;
      others = hit_others h;
    }

pub returns-in_err-read : goal.returns-in_err-read
returns-in_err-read g c =
    let m : Miss c.args.table.now c.args.key.now c.args.cache.now c.get.follows.lender-at-none c.properties-number.result.number c.in-Some.place = record {
      same = ap (λ p. p.number) c.properties-number.ensures.properties;
      located = c.in-Some.ensures.place;
      none = sym c.in_default-get.ensures.block;
      lent_is = c.get.follows.holds-at-none;
    } in
    record {
      ok = search rules;
      err = search rules;
      whole = λ are. answer_whole c.args.table.now c.args.key.now c.from_residual.result c.in-Some.ensures.shows (search rules) (search rules);
      cause = search rules;
      view = c.in_err-read.ensures.view;
      index = c.in_err-read.ensures.index;
      properties = c.in_err-read.ensures.properties;
      outside = miss_inside m _;
      kept = λ place block. miss_kept m _ place block;
      read = λ place located none. miss_refused m place c.from_residual.result (search rules);
      blocks = miss_blocks m _ c.in_err-read.ensures.view c.in_err-read.ensures.index c.in_err-read.ensures.properties;
      others = λ e among other. miss_others m e among;
    }

pub returns : goal.returns
returns g c =
    let m : Miss c.args.table.now c.args.key.now c.args.cache.now c.get.follows.lender-at-none c.properties-number.result.number c.in-Some.place = record {
      same = ap (λ p. p.number) c.properties-number.ensures.properties;
      located = c.in-Some.ensures.place;
      none = sym c.in_default-get.ensures.block;
      lent_is = c.get.follows.holds-at-none;
    } in
    let put = either_way _ _ c.put.result c.put.ensures.ok c.put.ensures.err in
    let r = was_read c.args.table.now c.args.key.now c.args.cache.now c.get.follows.lender-at-none c.put.new.self c.answer_of-answer.result c.properties-number.result.number c.in-Some.place c.in_ok-read.read m c.in_ok-read.ensures.ok c.answer_of-answer.ensures put in
    record {
      ok = λ are. read_ok r;
      err = read_err r;
      whole = λ are. answer_whole c.args.table.now c.args.key.now c.answer_of-answer.result c.in-Some.ensures.shows (read_ok r) (read_err r);
      cause = read_cause r _;
      view = c.in_ok-read.ensures.view;
      index = c.in_ok-read.ensures.index;
      properties = c.in_ok-read.ensures.properties;
      outside = miss_inside m _;
      kept = λ place block. miss_kept m _ place block;
      read = λ place located none. read_read r place located;
      blocks = read_blocks r _ c.in_ok-read.ensures.view c.in_ok-read.ensures.index c.in_ok-read.ensures.properties;
      others = read_others r;
    }
