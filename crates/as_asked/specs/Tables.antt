-- The register tables of 00, 01, 04 and 05: the fields of a byte, named as the datasheet names them. (That of 06 to 0B is plan's, in Fields.)
-- Assumes nothing.
use Rattle.std.specs.Prelude.{ℕ}
use Rattle.adc.specs.Registers.{bit_field}

-- 00, SYS_STAT: the flags
pub record Table00 : Type 0 where
  pub cc_ready : ℕ
  pub reserved : ℕ
  pub device_xready : ℕ
  pub ovrd_alert : ℕ
  pub uv : ℕ
  pub ov : ℕ
  pub scd : ℕ
  pub ocd : ℕ

abbrev pub table00 : ℕ → Table00
table00 byte = record {
  cc_ready = bit_field 7 7 byte;
  reserved = bit_field 6 6 byte;
  device_xready = bit_field 5 5 byte;
  ovrd_alert = bit_field 4 4 byte;
  uv = bit_field 3 3 byte;
  ov = bit_field 2 2 byte;
  scd = bit_field 1 1 byte;
  ocd = bit_field 0 0 byte;
}

-- 01, CELLBAL1: which of inputs 5 to 1 are balanced; 02 and 03 have inputs 10 to 6 and 15 to 11 in the same places
pub record Table01 : Type 0 where
  pub reserved : ℕ
  pub cb5 : ℕ
  pub cb4 : ℕ
  pub cb3 : ℕ
  pub cb2 : ℕ
  pub cb1 : ℕ

abbrev pub table01 : ℕ → Table01
table01 byte = record {
  reserved = bit_field 7 5 byte;
  cb5 = bit_field 4 4 byte;
  cb4 = bit_field 3 3 byte;
  cb3 = bit_field 2 2 byte;
  cb2 = bit_field 1 1 byte;
  cb1 = bit_field 0 0 byte;
}

-- 04, SYS_CTRL1: a load is there; the converter runs; 1 the thermistor, 0 the die; and the two bits that shut the chip down
pub record Table04 : Type 0 where
  pub load_present : ℕ
  pub reserved65 : ℕ
  pub adc_en : ℕ
  pub temp_sel : ℕ
  pub reserved2 : ℕ
  pub shut_a : ℕ
  pub shut_b : ℕ

abbrev pub table04 : ℕ → Table04
table04 byte = record {
  load_present = bit_field 7 7 byte;
  reserved65 = bit_field 6 5 byte;
  adc_en = bit_field 4 4 byte;
  temp_sel = bit_field 3 3 byte;
  reserved2 = bit_field 2 2 byte;
  shut_a = bit_field 1 1 byte;
  shut_b = bit_field 0 0 byte;
}

-- 05, SYS_CTRL2: no delays; the counter runs, or runs once; discharging and charging
pub record Table05 : Type 0 where
  pub delay_dis : ℕ
  pub cc_en : ℕ
  pub cc_oneshot : ℕ
  pub reserved42 : ℕ
  pub dsg_on : ℕ
  pub chg_on : ℕ

abbrev pub table05 : ℕ → Table05
table05 byte = record {
  delay_dis = bit_field 7 7 byte;
  cc_en = bit_field 6 6 byte;
  cc_oneshot = bit_field 5 5 byte;
  reserved42 = bit_field 4 2 byte;
  dsg_on = bit_field 1 1 byte;
  chg_on = bit_field 0 0 byte;
}

-- ---- one field as asked, or two, and every other as it was
abbrev pub with_switches : ℕ → ℕ → Table05 → Table05
with_switches dsg chg was = record {
  delay_dis = was.delay_dis;
  cc_en = was.cc_en;
  cc_oneshot = was.cc_oneshot;
  reserved42 = was.reserved42;
  dsg_on = dsg;
  chg_on = chg;
}

abbrev pub with_dsg_on : ℕ → Table05 → Table05
with_dsg_on on was = with_switches on was.chg_on was

abbrev pub with_chg_on : ℕ → Table05 → Table05
with_chg_on on was = with_switches was.dsg_on on was

abbrev pub with_counter : ℕ → ℕ → Table05 → Table05
with_counter en oneshot was = record {
  delay_dis = was.delay_dis;
  cc_en = en;
  cc_oneshot = oneshot;
  reserved42 = was.reserved42;
  dsg_on = was.dsg_on;
  chg_on = was.chg_on;
}

-- the counter on
abbrev pub counting : Table05 → Table05
counting was = with_counter 1 was.cc_oneshot was

abbrev pub with_converter : ℕ → ℕ → Table04 → Table04
with_converter adc temp was = record {
  load_present = was.load_present;
  reserved65 = was.reserved65;
  adc_en = adc;
  temp_sel = temp;
  reserved2 = was.reserved2;
  shut_a = was.shut_a;
  shut_b = was.shut_b;
}

abbrev pub with_adc_en : ℕ → Table04 → Table04
with_adc_en on was = with_converter on was.temp_sel was

abbrev pub with_temp_sel : ℕ → Table04 → Table04
with_temp_sel source was = with_converter was.adc_en source was

-- ---- 04 with these shut bits, and 0 in every other field
abbrev pub shutting : ℕ → ℕ → Table04
shutting a b = record { load_present = 0; reserved65 = 0; adc_en = 0; temp_sel = 0; reserved2 = 0; shut_a = a; shut_b = b }
