-- What a store holds, out of its fields.
use Rattle.lsm_disk.specs.State.{Seen}
use Rattle.lsm_dest.specs.FolderDests.{begun_in, hand_in}
use Rattle.lsm_store.specs.declared.store.Store.TheInside.{Inside}
use Rattle.lsm_store.specs.Inside.{Inner}

-- the fields of a store, each as contracts see it
abbrev pub inner : {D V : Type 0} → (D → Seen) → Inside D V → Inner
inner seen s = record {
  disk = seen s.disk;
  home = s.home;
  wal = s.wal;
  log = s.log;
  older = s.older;
  older_len = s.older_len;
  active = s.active;
  frozen = s.frozen;
  sequence = s.sequence;
  next = s.next;
  known = s.known.items;
  halt = s.halt;
  manifest = s.manifest;
  catalog = s.catalog;
  begun = begun_in s.restoring;
  hand = hand_in s.restoring;
}
