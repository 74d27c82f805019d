-- What it means that tests are passed: 10 and 11 by a recording, 12 to 16 by an ECC cluster. Assumes nothing.
use mathlib.Core.Path.{◌≡◌, refl, ap, ◌∙◌}
use mathlib.Core.List.{List}
use Prim.Native.Nat.{ℕ}
use native.Mathlib.Omega.{arith}
use Rattle.laws.proofs.First.{ended}
use Rattle.answer.specs.declared.Answer.TheVariants.{Done, Sync, Frame, BisColumn, AddressUnit, LdcColumn, Sector}
use Rattle.answer.specs.Answer.{number_of}
use Rattle.answer.proofs.Tests.{lowest-end, lowest-done}
use Rattle.scrambling.specs.Scrambling.{scrambling_of}
use Rattle.bis.specs.declared.PsnFound.{PsnFound}
use Rattle.bis.specs.declared.PsnFound.TheVariants.{Found, NotFound}
use Rattle.bis.specs.Reading as Bis
use Rattle.cluster.specs.Multiplex.{bis_in}
use Rattle.cluster.specs.Reading.{wrong_word, first_wrong_word, wrong_sector, first_wrong_sector, user_in, Reads}
use Rattle.recording.specs.Reading.{first_wrong_sync, first_no_frame}
use Rattle.recording.proofs.Accepting.{Passes}
use Rattle.judging.specs.Tests.{syncs_answer, frames_answer, bis_columns_answer, address_fields_answer, found_answer, psn_answer, cluster_psn, ldc_columns_answer, sectors_answer}

-- ---- 10 and 11: no sync and no frame is wrong

module _ (b : List ℕ) where
  pub syncs-passed : first_wrong_sync b ≡ 497 → syncs_answer b ≡ Done
  unfolding syncs_answer
  syncs-passed e = lowest-end Sync e

  pub frames-passed : first_no_frame b ≡ 496 → frames_answer b ≡ Done
  unfolding frames_answer
  frames-passed e = lowest-end Frame e

  pub recording-passes : syncs_answer b ≡ Done → frames_answer b ≡ Done → Passes b
  unfolding syncs_answer frames_answer
  recording-passes syncs frames = record { syncs = lowest-done Sync (λ k. refl) syncs; frames = lowest-done Frame (λ k. refl) frames }

-- ---- 12 to 16: the cluster is read with nothing wrong

pub record ClusterPasses (work : List ℕ) : Type 0 where
  pub columns : bis_columns_answer (bis_in work) ≡ Done
  pub fields : address_fields_answer (bis_in work) ≡ Done
  pub psn : (psn_answer (bis_in work)).answer ≡ Done
  pub words : ldc_columns_answer work ≡ Done
  pub sectors : sectors_answer (scrambling_of (cluster_psn work)) work ≡ Done

-- the PSN of the answer is the one that was found
found-psn : (p : PsnFound) → (found_answer p).answer ≡ Done → p ≡ Found (found_answer p).psn
found-psn (Found psn) e = refl
found-psn NotFound e = let z : ◌≡◌ {A = ℕ} 14 0 = ap number_of e in absurd (omega arith)

module _ (work : List ℕ) where
  module _ (user side : List ℕ) (psn : ℕ) (r : Reads work user psn side) where
    pub read-psn : cluster_psn work ≡ psn
    unfolding psn_answer
    read-psn = ap (λ (p : PsnFound). (found_answer p).psn.0) r.bis.has-psn

    pub reads-passes : ClusterPasses work
    unfolding bis_columns_answer address_fields_answer psn_answer ldc_columns_answer sectors_answer
    reads-passes =
        record {
          columns = lowest-end BisColumn r.bis.right-columns;
          fields = lowest-end AddressUnit r.bis.right-fields;
          psn = ap (λ (p : PsnFound). (found_answer p).answer) r.bis.has-psn;
          words = lowest-end LdcColumn r.right-words;
          sectors = lowest-end Sector (ap (λ (p : ℕ). first_wrong_sector (scrambling_of p) work) read-psn ∙ r.right-sectors);
        }

  module _ (passes : ClusterPasses work) where
    block_reads : Bis.Reads (bis_in work) (cluster_psn work) (Bis.side_in (bis_in work))
    unfolding bis_columns_answer address_fields_answer psn_answer Bis.first_wrong_column Bis.first_wrong_field
    block_reads =
        record {
          right-columns = ended 24 (Bis.wrong_column (bis_in work)) (lowest-done BisColumn (λ k. refl) passes.columns);
          right-fields = ended 16 (Bis.wrong_field (bis_in work)) (lowest-done AddressUnit (λ k. refl) passes.fields);
          has-psn = found-psn (Bis.psn_in (bis_in work)) passes.psn;
          has-side = refl;
        }

    pub passes-reads : Reads work (user_in (scrambling_of (cluster_psn work)) work) (cluster_psn work) (Bis.side_in (bis_in work))
    unfolding ldc_columns_answer sectors_answer first_wrong_word first_wrong_sector
    passes-reads =
        record {
          bis = block_reads;
          right-words = ended 304 (wrong_word work) (lowest-done LdcColumn (λ k. refl) passes.words);
          right-sectors = ended 32 (wrong_sector (scrambling_of (cluster_psn work)) work) (lowest-done Sector (λ k. refl) passes.sectors);
          has-user = refl;
        }
